-- What a send changes, and what it leaves.
use Rattle.std.proofs.Common.{◌≡◌, ◌++◌, ℕ, List, Option, Some, None, IsSome, take, ap, refl, ◌∙◌}
use Rattle.board_links.specs.Answers.{OutRaises, Sends}
use Rattle.board_links.specs.declared.link.Out.{Out}
use Rattle.board_links.specs.declared.link.Out.TheVariants as out
use Rattle.client_predict.specs.Client.{Client}
use Rattle.game_sheet.specs.Lines.{lines}
use Rattle.game_sheet.specs.MatchName.{Name}
use Rattle.game_trait.specs.Rules.{Rules}
use Rattle.bot_sitter.specs.Hearing.{AreCut, Grows, Hears, IsKept}
use Rattle.bot_sitter.specs.Sitting.{Sitting, bot_seat_of, seat_by}

pub sends_on : {X G : Type 0} (rules : Rules G) (o : Out) (bytes : List ℕ) (old new : Sitting X G) → Hears rules o bytes old new → Sends o bytes old.sent (Some new.sent)
sends_on {X = X} {G = G} rules out.Done bytes old new h = ap (λ (s : Sitting X G). Some s.sent) h.1
sends_on rules out.NoMemory bytes old new h = (h.kept, ap Some h.sent)
sends_on rules out.Failed bytes old new h = elim h [ ]

pub raised : {X G : Type 0} (rules : Rules G) (o : Out) (bytes : List ℕ) (old new : Sitting X G) → Hears rules o bytes old new → OutRaises o 0 0
raised rules out.Done bytes old new h = refl
raised rules out.NoMemory bytes old new h = refl
raised rules out.Failed bytes old new h = elim h [ ]

grown_by : (sent more all : List ℕ) → AreCut sent → all ≡ sent ++ more → Grows sent all
grown_by sent more all cut e = (lines more, ap lines e ∙ cut more)

pub grown : {X G : Type 0} (rules : Rules G) (o : Out) (bytes : List ℕ) (old new : Sitting X G) → AreCut old.sent → Hears rules o bytes old new → Grows old.sent new.sent
grown {X = X} {G = G} rules out.Done bytes old new cut h = grown_by old.sent bytes new.sent cut (ap (λ (s : Sitting X G). s.sent) h.1)
grown rules out.NoMemory bytes old new cut h = grown_by old.sent (take h.kept bytes) new.sent cut h.sent
grown rules out.Failed bytes old new cut h = elim h [ ]

pub kept : {X G : Type 0} (rules : Rules G) (o : Out) (bytes : List ℕ) (old new : Sitting X G) → Hears rules o bytes old new → IsKept old new
kept {X = X} {G = G} rules out.Done bytes old new h = record {
  game = ap (λ (s : Sitting X G). s.game) h.1;
  last = ap (λ (s : Sitting X G). s.last) h.1;
  asked_out = ap (λ (s : Sitting X G). s.asked_out) h.1;
}
kept rules out.NoMemory bytes old new h = record { game = h.game; last = h.last; asked_out = h.asked_out }
kept rules out.Failed bytes old new h = elim h [ ]

same_seat : {G : Type 0} (name name2 : Name) (seat seat2 : ℕ) (c d : Option (Client G)) → name2 ≡ name → seat2 ≡ seat → (IsSome c → IsSome d)
    → IsSome (seat_by name seat c) → seat_by name2 seat2 d ≡ seat_by name seat c
same_seat name name2 seat seat2 None d n s there here = cc
same_seat name name2 seat seat2 (Some c) None n s there here = let no = there refl in cc
same_seat name name2 seat seat2 (Some c) (Some d) n s there here = cc

pub seat_kept : {X G : Type 0} (rules : Rules G) (o : Out) (bytes : List ℕ) (old new : Sitting X G) → Hears rules o bytes old new → (IsSome old.client → IsSome new.client)
    → IsSome (bot_seat_of old) → bot_seat_of new ≡ bot_seat_of old
seat_kept {X = X} {G = G} rules out.Done bytes old new h there here =
    same_seat old.name new.name old.seat new.seat old.client new.client (ap (λ (s : Sitting X G). s.name) h.1) (ap (λ (s : Sitting X G). s.seat) h.1) there here
seat_kept rules out.NoMemory bytes old new h there here = same_seat old.name new.name old.seat new.seat old.client new.client h.name h.seat there here
seat_kept rules out.Failed bytes old new h there here = elim h [ ]
