-- Words ask for one thing.
use Rattle.std.proofs.Common.{◌≡◌, Some, ap}
use Rattle.std.specs.Prelude.{unwrap_or}
use Rattle.command_words.specs.declared.serve.ServeWords.{ServeWords}

pub same_words : (a b : ServeWords) → Some a ≡ Some b → a ≡ b
same_words a b e = ap (λ o. unwrap_or o a) e
