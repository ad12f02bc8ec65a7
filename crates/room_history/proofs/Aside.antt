-- What was handed out, bye lines aside.
use Rattle.std.proofs.Common.{◌≡◌, inl, inr, ℕ, ◌+◌, Bool, true, false, nat_lt, List, [], ◌∷◌, ◌++◌, refl, sym, ap, ◌∙◌, subst, append_assoc, append-nil}
use Rattle.game_sheet.specs.declared.act.Bye.{Bye}
use Rattle.game_sheet.specs.declared.act.Bye.TheVariants as bye
use Rattle.room_history.specs.Course.{IsFirstPart}
use Rattle.wire_json.specs.declared.server.ServerMsg.{ServerMsg}
use Rattle.wire_json.specs.declared.server.ServerMsg.TheVariants.{Bye as Farewell}
use Rattle.wire_json.specs.ServerText.{text}
use Rattle.room_history.specs.Piece.{Closed, End, Ended, Line, Mark, Open, Piece, State, all_lines, counted_size, lines_to_mark, message_lines, message_lines_to_mark, state_after_take, state_of, waiting_size}
use Rattle.room_history.specs.Session.{Session}
use Rattle.room_history.specs.Stream.{cut, most_waiting, stream, with_piece}
use Rattle.room_history.proofs.Names.{IsInOrder, line_or_end}
use Rattle.room_history.proofs.Sessions.{Good, pieces_of}

pub out_first : (ps : List Piece) → IsFirstPart (message_lines_to_mark ps) (message_lines ps)
out_first [] = ([], refl)
out_first (Line m ∷ ps) = ((out_first ps).0 ++ text m ∷ [], ap (λ x. x ++ text m ∷ []) (out_first ps).1 ∙ append_assoc (message_lines_to_mark ps) (out_first ps).0 (text m ∷ []))
out_first (Mark ∷ ps) = ([], sym (append-nil (message_lines ps)))
out_first (End why ∷ ps) = out_first ps

pub first_of_first : (a b c : List (List ℕ)) → IsFirstPart a b → IsFirstPart b c → IsFirstPart a c
first_of_first a b c f g = (f.0 ++ g.0, g.1 ∙ ap (λ x. x ++ g.0) f.1 ∙ append_assoc a f.0 g.0)

record Both (why : Bye) (ps : List Piece) : Type 0 where
  pub all : all_lines ps ≡ message_lines ps ++ text (Farewell why) ∷ []
  pub handed : lines_to_mark ps ≡ message_lines_to_mark ps ++ text (Farewell why) ∷ []

abbrev IsAside : State → List Piece → Type 0
IsAside Open ps = (all_lines ps ≡ message_lines ps) × (lines_to_mark ps ≡ message_lines_to_mark ps)
IsAside (Ended why) ps = (all_lines ps ≡ message_lines ps ++ text (Farewell why) ∷ []) × (lines_to_mark ps ≡ message_lines_to_mark ps)
IsAside Closed ps = (why : Bye) × Both why ps

aside_told : (b : Bool) (m : ServerMsg) (ps : List Piece) → state_of ps ≡ Open → IsAside Open ps → IsAside (state_of (line_or_end b m ps)) (line_or_end b m ps)
aside_told true m ps e h = (ap (λ x. x ++ text (Farewell bye.Lagging) ∷ []) h.0, h.1)
aside_told false m ps e h = subst (λ st. IsAside st (Line m ∷ ps)) (sym e) (ap (λ x. x ++ text m ∷ []) h.0, h.1)

aside_mark : (st : State) (ps : List Piece) → IsAside st ps → IsAside (state_after_take st) (Mark ∷ ps)
aside_mark Open ps h = (h.0, h.0)
aside_mark (Ended why) ps h = (why, record { all = h.0; handed = h.0 })
aside_mark Closed ps h = (h.0, record { all = h.1.all; handed = h.1.all })

aside_put : (st : State) (p : Piece) (ps : List Piece) → state_of ps ≡ st → IsAside st ps → IsAside (state_of (with_piece st p ps)) (with_piece st p ps)
aside_put Open (Line m) ps e h = aside_told (nat_lt most_waiting (waiting_size ps + counted_size m)) m ps e h
aside_put Open Mark ps e h = subst (λ st. IsAside (state_after_take st) (Mark ∷ ps)) (sym e) (aside_mark Open ps h)
aside_put Open (End why) ps e h = (ap (λ x. x ++ text (Farewell why) ∷ []) h.0, h.1)
aside_put (Ended by) (Line m) ps e h = subst (λ st. IsAside st ps) (sym e) h
aside_put (Ended by) Mark ps e h = subst (λ st. IsAside (state_after_take st) (Mark ∷ ps)) (sym e) (aside_mark (Ended by) ps h)
aside_put (Ended by) (End why) ps e h = subst (λ st. IsAside st ps) (sym e) h
aside_put Closed (Line m) ps e h = subst (λ st. IsAside st ps) (sym e) h
aside_put Closed Mark ps e h = subst (λ st. IsAside (state_after_take st) (Mark ∷ ps)) (sym e) (aside_mark Closed ps h)
aside_put Closed (End why) ps e h = subst (λ st. IsAside st ps) (sym e) h

aside_cut : (ps : List Piece) → IsAside (state_of (cut ps)) (cut ps)
aside_cut [] = (refl, refl)
aside_cut (p ∷ ps) = aside_put (state_of (cut ps)) p (cut ps) refl (aside_cut ps)

pub sent_aside : (s : Session) → Good s → IsInOrder s
unfolding stream
sent_aside s g = by (state_of (cut (pieces_of s))) (aside_cut (pieces_of s))
  where
    by : (st : State) → IsAside st (cut (pieces_of s)) → IsInOrder s
    by Open h = inl (g.tied ∙ h.1)
    by (Ended why) h = inl (g.tied ∙ h.1)
    by Closed h = inr (h.0, g.tied ∙ h.1.handed)
