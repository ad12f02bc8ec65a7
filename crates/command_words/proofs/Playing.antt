-- What the matches of the words of `play` ask for.
use Rattle.std.proofs.Common.{◌≡◌, ℕ, List, [], codes, true, refl, sym, ap, ◌∙◌}
use Rattle.clap.specs.Words.{HasMatchesOf, fault_of, first_value, found_of, is_simple, rows_of}
use Rattle.clap.specs.declared.parser.matches.ArgMatches.{ArgMatches}
use Rattle.clap.specs.declared.parser.matches.Found.{Found}
use Rattle.clap.proofs.OnLiterals.{clap_on_literals}
use Rattle.clap.proofs.WalkLemmas.{first_value-rows}
use Rattle.command_words.specs.Play.{play_app, play_from, play_in, play_of}

is_simple_app : is_simple play_app ≡ true
unfolding clap_on_literals
is_simple_app = refl

by_values : (f : Found) → play_in (rows_of f)
    ≡ play_of (first_value f (codes "connect")) (first_value f (codes "game")) (first_value f (codes "match")) (first_value f (codes "seat")) (first_value f (codes "key"))
    (first_value f (codes "draw"))
by_values f = rw (first_value-rows f (codes "connect"), first_value-rows f (codes "game"), first_value-rows f (codes "match"), first_value-rows f (codes "seat"), first_value-rows f (codes "key"), first_value-rows f (codes "draw")) refl

pub accepted : (texts : List (List ℕ)) (m : ArgMatches) → HasMatchesOf play_app texts m → fault_of play_app texts ≡ [] → play_from texts
    ≡ play_of (first_value (found_of m) (codes "connect")) (first_value (found_of m) (codes "game")) (first_value (found_of m) (codes "match")) (first_value (found_of m) (codes "seat")) (first_value (found_of m) (codes "key"))
    (first_value (found_of m) (codes "draw"))
unfolding play_from
accepted texts m matches no_fault = rw (no_fault) (ap play_in (sym (matches is_simple_app).0) ∙ by_values (found_of m))
