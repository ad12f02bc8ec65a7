-- What the matches of the words of `check` and of `ask` ask for.
use Rattle.std.proofs.Common.{◌≡◌, ℕ, List, [], codes, true, refl, sym, ap, ◌∙◌}
use Rattle.clap.specs.Words.{HasMatchesOf, fault_of, first_value, found_of, is_simple, rows_of}
use Rattle.clap.specs.declared.parser.matches.ArgMatches.{ArgMatches}
use Rattle.clap.specs.declared.parser.matches.Found.{Found}
use Rattle.clap.proofs.OnLiterals.{clap_on_literals}
use Rattle.clap.proofs.WalkLemmas.{first_value-rows}
use Rattle.command_words.specs.Describe.{ask_app, ask_from, ask_in, ask_of, check_app, check_from, check_in, check_of}

is_simple_check : is_simple check_app ≡ true
unfolding clap_on_literals
is_simple_check = refl

is_simple_ask : is_simple ask_app ≡ true
unfolding clap_on_literals
is_simple_ask = refl

check_by_values : (f : Found) → check_in (rows_of f) ≡ check_of (first_value f (codes "file")) (first_value f (codes "play"))
check_by_values f = rw (first_value-rows f (codes "file"), first_value-rows f (codes "play")) refl

ask_by_values : (f : Found) → ask_in (rows_of f) ≡ ask_of (first_value f (codes "file"))
ask_by_values f = rw (first_value-rows f (codes "file")) refl

pub check_accepted : (texts : List (List ℕ)) (m : ArgMatches) → HasMatchesOf check_app texts m → fault_of check_app texts ≡ [] → check_from texts
    ≡ check_of (first_value (found_of m) (codes "file")) (first_value (found_of m) (codes "play"))
unfolding check_from
check_accepted texts m matches no_fault = rw (no_fault) (ap check_in (sym (matches is_simple_check).0) ∙ check_by_values (found_of m))

pub ask_accepted : (texts : List (List ℕ)) (m : ArgMatches) → HasMatchesOf ask_app texts m → fault_of ask_app texts ≡ [] → ask_from texts
    ≡ ask_of (first_value (found_of m) (codes "file"))
unfolding ask_from
ask_accepted texts m matches no_fault = rw (no_fault) (ap ask_in (sym (matches is_simple_ask).0) ∙ ask_by_values (found_of m))
