-- A page as it is played: what its lines make of the client, and what they write.
use Rattle.std.specs.Prelude.{◌≡◌, ℕ, List, [], ◌∷◌, ◌++◌, Option, Some, None, Result, Ok, Err}
use Rattle.any_game.specs.AnyRules.{any_rules}
use Rattle.any_game.specs.GameKind.{GameKind}
use Rattle.any_game.specs.declared.any_g.AnyG.{AnyG}
use Rattle.client_predict.specs.Acting.{act_no}
use Rattle.client_predict.specs.Client.{Client, Held, Playing, fresh}
use Rattle.client_predict.specs.Reading.{reads}
use Rattle.client_predict.specs.declared.told.ActNo.{ActNo}
use Rattle.line_runner.specs.Play.{Doing, Play}
use Rattle.line_runner.specs.declared.interpreter.LineNo.{LineNo}
use Rattle.line_runner.specs.declared.interpreter.LineNo.TheVariants.{BadLine, NoMemory}
use Rattle.link_play.specs.Doing.{Who, act_line, key_of, sync_line, with_action}
use Rattle.page_player.specs.Drawing.{drawn, to_send}
use Rattle.page_player.specs.PageLines.{PageStep, Begins, Hears, Asks, Nothing, step_of}
use Rattle.wire_json.specs.declared.asked.Asked.{Asked}

-- the client of a match, once a line has begun at one
abbrev pub Sits : Type 0
Sits = Option (Held GameKind AnyG)

-- a client that has read nothing, with the key of the one who looks
abbrev pub begun : GameKind → Who → Held GameKind AnyG
begun kind who = record { game = kind; key = key_of who.viewer; client = fresh }

abbrev pub becomes : Held GameKind AnyG → Client AnyG → Held GameKind AnyG
becomes h client = record { game = h.game; key = h.key; client = client }

-- the client has read a line of the server
abbrev pub heard : Held GameKind AnyG → List ℕ → Held GameKind AnyG
heard h line = becomes h (reads (any_rules h.game) h.client line).client

-- the client makes an action and its line is to be sent, unless it makes none
abbrev pub acted_by : Held GameKind AnyG → Asked → Option ActNo → Option (Playing AnyG) → Held GameKind AnyG × List ℕ
acted_by h asked (Some why) playing = (h, [])
acted_by h asked None None = (h, [])
acted_by h asked None (Some p) =
    (becomes h (with_action (any_rules h.game) h.client p asked), to_send (act_line (any_rules h.game) h.key p asked))

abbrev pub acted : Held GameKind AnyG → Asked → Held GameKind AnyG × List ℕ
acted h asked = acted_by h asked (act_no h.client.gone h.client.playing) h.client.playing

-- it is drawn what is shown then
abbrev pub draws : Held GameKind AnyG → List ℕ → Sits × List ℕ
draws h text = (Some h, text ++ drawn (Some h))

abbrev pub hears : Sits → List ℕ → Sits × List ℕ
hears None line = (None, drawn None)
hears (Some h) line = draws (heard h line) []

abbrev pub asks : Sits → Asked → Sits × List ℕ
asks None asked = (None, drawn None)
asks (Some h) asked = draws (acted h asked).0 (acted h asked).1

-- what a step makes of the client, and what it writes
abbrev pub does : PageStep → Sits → Sits × List ℕ
does (Begins kind who) s = draws (begun kind who) (to_send (sync_line who))
does (Hears line) s = hears s line
does (Asks asked) s = asks s asked
does Nothing s = (s, drawn s)

-- steps one after another, the first one first
abbrev pub and_then : Sits × List ℕ → (Sits → Sits × List ℕ) → Sits × List ℕ
and_then first rest = ((rest first.0).0, first.1 ++ (rest first.0).1)

abbrev pub does_all : List PageStep → Sits → Sits × List ℕ
does_all [] s = (s, [])
does_all (step ∷ steps) s = and_then (does step s) (does_all steps)

-- nothing is left open by the lines themselves
unfoldable pub page_play : Play (Unit {0}) PageStep Sits
page_play = record { form = step_of; runs = λ marks steps s. does_all steps s; Tells = λ marks lines. Unit {0} }

unfoldable pub page_doing : Doing (Unit {0}) PageStep Sits Sits
page_doing = record { does = λ mark step s. does step s; Stands = λ held s. held ≡ s; Fails = λ held s. Unit {0} }

-- a step was done: the client is what the step makes of it, and what it writes was added to a text
abbrev pub Ran : PageStep → Sits → Sits → List ℕ → List ℕ → Type 0
Ran step old new before after = (new ≡ (does step old).0) × (after ≡ before ++ (does step old).1)

-- the step of a line in form was done, or the line is in no form and the client stays, or there was no memory
abbrev pub BeganBy : {A : Type 0} → Option PageStep → Result A LineNo → Sits → Sits → List ℕ → List ℕ → Type 0
BeganBy form (Ok done) old new before after = (step : PageStep) × (form ≡ Some step) × Ran step old new before after
BeganBy form (Err BadLine) old new before after = (form ≡ None) × (new ≡ old)
BeganBy form (Err NoMemory) old new before after = Unit {0}
