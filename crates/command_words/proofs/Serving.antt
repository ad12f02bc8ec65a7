-- What the matches of the words of `serve` ask for.
use Rattle.std.proofs.Common.{◌≡◌, ℕ, List, [], codes, true, refl, sym, ap, ◌∙◌}
use Rattle.clap.specs.Words.{HasMatchesOf, fault_of, first_value, found_of, is_simple, rows_of}
use Rattle.clap.specs.declared.parser.matches.ArgMatches.{ArgMatches}
use Rattle.clap.specs.declared.parser.matches.Found.{Found}
use Rattle.clap.proofs.OnLiterals.{clap_on_literals}
use Rattle.clap.proofs.WalkLemmas.{first_value-rows}
use Rattle.command_words.specs.Serve.{guests, is_said, serve_app, serve_from, serve_in, serve_of}

is_simple_app : is_simple serve_app ≡ true
unfolding clap_on_literals
is_simple_app = refl

by_values : (f : Found) → serve_in (rows_of f)
    ≡ serve_of (first_value f (codes "listen")) (first_value f (codes "rooms")) (first_value f (codes "workers")) (first_value f (codes "links")) (first_value f (codes "sessions"))
    (first_value f (codes "silence")) (first_value f (codes "idle")) (guests (first_value f (codes "origin")) (first_value f (codes "page")) (first_value f (codes "keep")) (first_value f (codes "status")) (is_said (first_value f (codes "ws")))
    (first_value f (codes "bots")) (first_value f (codes "seats")) (first_value f (codes "pace")))
by_values f = rw (first_value-rows f (codes "listen"), first_value-rows f (codes "rooms"), first_value-rows f (codes "workers"), first_value-rows f (codes "links"), first_value-rows f (codes "sessions"), first_value-rows f (codes "silence"), first_value-rows f (codes "idle"), first_value-rows f (codes "origin"), first_value-rows f (codes "page"), first_value-rows f (codes "keep"), first_value-rows f (codes "status"), first_value-rows f (codes "ws"), first_value-rows f (codes "bots"), first_value-rows f (codes "seats"), first_value-rows f (codes "pace")) refl

pub accepted : (texts : List (List ℕ)) (m : ArgMatches) → HasMatchesOf serve_app texts m → fault_of serve_app texts ≡ [] → serve_from texts
    ≡ serve_of (first_value (found_of m) (codes "listen")) (first_value (found_of m) (codes "rooms")) (first_value (found_of m) (codes "workers")) (first_value (found_of m) (codes "links")) (first_value (found_of m) (codes "sessions"))
    (first_value (found_of m) (codes "silence")) (first_value (found_of m) (codes "idle")) (guests (first_value (found_of m) (codes "origin")) (first_value (found_of m) (codes "page")) (first_value (found_of m) (codes "keep")) (first_value (found_of m) (codes "status")) (is_said (first_value (found_of m) (codes "ws")))
    (first_value (found_of m) (codes "bots")) (first_value (found_of m) (codes "seats")) (first_value (found_of m) (codes "pace")))
unfolding serve_from
accepted texts m matches no_fault = rw (no_fault) (ap serve_in (sym (matches is_simple_app).0) ∙ by_values (found_of m))
