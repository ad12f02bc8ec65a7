use Rattle.std.proofs.Common.{◌≡◌, ◌*◌, ◌-◌, ◌++◌, take, length}
use Rattle.game_hall.specs.Words.{bytes_of_words, drawn}
use Rattle.game_hall.proofs.words.fill.Given as goal

-- the words drawn so far fill the first bytes, and those still to be drawn make the rest
abbrev pub invariant-loop-place : goal.invariant-loop-place
invariant-loop-place l = record {
  drawn : l.tape ≡ drawn l.place l.fn.tape;
  whole : length l.bytes ≡ 4 * l.words;
  so_far : take (4 * l.place) l.bytes ++ bytes_of_words (take (l.words - l.place) l.tape.left) ≡ bytes_of_words (take l.words l.fn.tape.left);
}
