-- What the words of `serve` ask for. They are those of a simple command: where to listen, how many rooms, workers, links at once and sessions, when
-- it clears a match, whom it lets in, from where it hands out a page, where it keeps its rooms, where it tells its status, and which bots it seats
-- at which pace.
use Rattle.std.specs.Prelude.{ℕ, List, [], ◌∷◌, ◌&&◌, ◌||◌, Bool, Option, Some, None, bytes_eq, codes, if◌then◌else◌, is_some, min, not, option_map, unwrap_or}
use Rattle.any_game.specs.GameKind.{GameKind}
use Rattle.clap.specs.Words.{App, Row, fault_of, first_of, matches_of, new_app, with_rule}
use Rattle.clap.specs.Kinds.{Kinds}
use Rattle.command_words.specs.Games.{bots_from, pace_from}
use Rattle.command_words.specs.Numbers.{endless, number_or}
use Rattle.command_words.specs.Options.{flag_rule, needed_rule, option_rule}
use Rattle.command_words.specs.declared.serve.ServeWords.{ServeWords}

abbrev pub serve_app : App
serve_app =
    with_rule (with_rule (with_rule (with_rule (with_rule (with_rule (with_rule (with_rule (with_rule (with_rule (with_rule (with_rule (with_rule (with_rule (with_rule (new_app (codes "serve")) (needed_rule (codes "listen")))
    (option_rule (codes "rooms"))) (option_rule (codes "workers"))) (option_rule (codes "links"))) (option_rule (codes "sessions"))) (option_rule (codes "silence"))) (option_rule (codes "idle"))) (option_rule (codes "origin")))
    (option_rule (codes "page"))) (option_rule (codes "keep"))) (option_rule (codes "status"))) (option_rule (codes "bots"))) (option_rule (codes "seats"))) (option_rule (codes "pace"))) (flag_rule (codes "ws"))

-- whom it lets in, from where it hands out a page, where it keeps its rooms, where it tells its status, and which bots it seats, at which pace: a
-- page, and one of an origin, come over WebSockets alone, and rooms where bots sit aren't kept
pub record Guests : Type 0 where
  pub origin : Option (List ℕ)
  pub page : Option (List ℕ)
  pub keep : Option (List ℕ)
  pub status : Option (List ℕ)
  pub ws : Bool
  pub bots : Option (List ℕ)
  pub seats : Option (List ℕ)
  pub pace : Option (List ℕ)

abbrev pub guests : Option (List ℕ) → Option (List ℕ) → Option (List ℕ) → Option (List ℕ) → Bool → Option (List ℕ) → Option (List ℕ) → Option (List ℕ) → Guests
guests origin page keep status ws bots seats pace = record { origin = origin; page = page; keep = keep; status = status; ws = ws; bots = bots; seats = seats; pace = pace }

-- an origin and a page go with WebSockets alone, and rooms that are kept with no bots
abbrev pub go_together : Option (List ℕ) → Option (List ℕ) → Option (List ℕ) → Bool → Option (List ℕ) → Bool
go_together origin page keep ws bots = (ws || not (is_some origin || is_some page)) && not (is_some keep && is_some bots)

-- with bots at so many seconds
abbrev pub with_pace : List ℕ → ℕ → ℕ → ℕ → ℕ → ℕ → ℕ → Guests → Option ℕ → Option ServeWords
with_pace listen rooms workers links sessions silence idle g None = None
with_pace listen rooms workers links sessions silence idle g (Some pace) =
    option_map (λ bots. record { listen = listen; rooms = rooms; workers = min workers links; links = links; sessions = sessions; silence = silence; idle = idle; origin = g.origin; page = g.page; keep = g.keep; status = g.status; ws = g.ws; bots = bots; pace = pace })
    (bots_from links g.bots g.seats)

-- With so many links there are no more workers than those, and fewer bots.
abbrev pub with_links : List ℕ → ℕ → ℕ → Option ℕ → ℕ → ℕ → ℕ → Guests → Option ServeWords
with_links listen rooms workers None sessions silence idle g = None
with_links listen rooms workers (Some links) sessions silence idle g =
    if go_together g.origin g.page g.keep g.ws g.bots then with_pace listen rooms workers links sessions silence idle g (pace_from g.bots g.pace) else None

-- where no links are said there are as many as workers
abbrev pub with_numbers : List ℕ → Option ℕ → Option ℕ → Option (List ℕ) → Option ℕ → Option ℕ → Option ℕ → Guests → Option ServeWords
with_numbers listen (Some rooms) (Some workers) links (Some sessions) (Some silence) (Some idle) g = with_links listen rooms workers (number_or 1 4096 workers links) sessions silence idle g
with_numbers listen rooms workers links sessions silence idle g = None

-- whether a flag was said, by the text that stands for it
abbrev pub is_said : Option (List ℕ) → Bool
is_said text = bytes_eq (unwrap_or text []) (codes "true")

-- by the values of the options, where they are said
abbrev pub serve_of : Option (List ℕ) → Option (List ℕ) → Option (List ℕ) → Option (List ℕ) → Option (List ℕ) → Option (List ℕ) → Option (List ℕ) → Guests → Option ServeWords
serve_of None rooms workers links sessions silence idle g = None
serve_of (Some listen) rooms workers links sessions silence idle g =
    with_numbers listen (number_or 1 64 16 rooms) (number_or 1 32 8 workers) links (number_or 1 1000000 endless sessions) (number_or 0 86400 0 silence) (number_or 0 10080 0 idle) g

abbrev pub serve_in : List Row → Option ServeWords
serve_in rows =
    serve_of (first_of (codes "listen") rows) (first_of (codes "rooms") rows) (first_of (codes "workers") rows) (first_of (codes "links") rows) (first_of (codes "sessions") rows)
    (first_of (codes "silence") rows) (first_of (codes "idle") rows) (guests (first_of (codes "origin") rows) (first_of (codes "page") rows) (first_of (codes "keep") rows) (first_of (codes "status") rows) (is_said (first_of (codes "ws") rows))
    (first_of (codes "bots") rows) (first_of (codes "seats") rows) (first_of (codes "pace") rows))

-- nothing is asked for by words that the command refuses
abbrev pub unless_refused : {A : Type 0} → Kinds → Option A → Option A
unless_refused [] asked = asked
unless_refused (kind ∷ kinds) asked = None

-- what the words ask for, of which the first is the command's own; none where they are in no form
unfoldable pub serve_from : List (List ℕ) → Option ServeWords
serve_from words = unless_refused (fault_of serve_app words) (serve_in (matches_of serve_app words))
