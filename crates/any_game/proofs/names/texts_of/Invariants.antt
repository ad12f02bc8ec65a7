use Rattle.std.proofs.Common.{◌≡◌, ◌++◌, drop, map}
use Rattle.any_game.proofs.names.texts_of.Given as goal

-- what was copied so far stands before the words to come
abbrev pub invariant-loop-word : goal.invariant-loop-word
invariant-loop-word l = map (λ word. word.now) l.words ≡ l.texts ++ map (λ word. word.now) (drop l.word-index l.words)
