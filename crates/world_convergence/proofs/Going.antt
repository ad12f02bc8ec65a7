-- No line makes a client gone but a bye.
use Rattle.std.proofs.Common.{◌≡◌, ◌⊎◌, inl, inr, ◌≤◌, ◌||◌, ℕ, ◌+◌, Bool, true, false, if◌then◌else◌, List, [], ◌∷◌, ◌++◌, length, Some, refl, sym, ap, ◌∙◌, append_assoc, arith}
use Rattle.client_predict.specs.Client.{Client, Held}
use Rattle.client_predict.specs.Reading.{reads}
use Rattle.game_sheet.specs.declared.act.Bye.{Bye}
use Rattle.game_trait.specs.Lawful.{Lawful}
use Rattle.game_trait.specs.Rules.{Rules}
use Rattle.room_history.specs.Course.{IsFirstPart}
use Rattle.room_history.specs.Match.{Match}
use Rattle.wire_json.specs.declared.server.ServerMsg.TheVariants.{Bye as Farewell}
use Rattle.wire_json.specs.ServerText.{text as server_text}
use Rattle.room_history.specs.Piece.{message_lines_to_mark}
use Rattle.room_history.specs.Room.{match_of}
use Rattle.room_history.proofs.Names.{IsInOrder}
use Rattle.room_history.specs.Session.{Session, stream_of}
use Rattle.room_history.proofs.Aside.{sent_aside}
use Rattle.room_history.proofs.Clauses.{good_session}
use Rattle.wire_json.specs.ServerReading.{server_read}
use Rattle.convergence.specs.Doing.{IsLike, Reads}
use Rattle.client_predict.specs.Following.{followed, has_bye, is_bye, is_told, reads_all, told_lines}
use Rattle.convergence.specs.Shallow.{StatesAreShallow}
use Rattle.convergence.proofs.Clauses.{are_shallow, goes_on}
use Rattle.convergence.proofs.Grounds.{StaysSound}
use Rattle.convergence.proofs.Likes.{all_alike, like}
use Rattle.convergence.proofs.Messages.{bye_reads}
use Rattle.convergence.proofs.Streams.{bye_told, last_in, told_append}
use Rattle.hall_history.specs.Rooms.{history_of}
use Rattle.world_history.specs.World.{World}
use Rattle.world_convergence.proofs.Counting.{byes_sent, count}
use Rattle.world_convergence.proofs.Entries.{one_if}
use Rattle.world_convergence.proofs.Fitting.{AllFit}
use Rattle.world_convergence.proofs.Stories.{Met, Sent, is_there, known_where, like_next, one_line, sent_of, session_is}

both_false : (a b : Bool) → (a || b) ≡ false → (a ≡ false) × (b ≡ false)
both_false true b e = cc
both_false false b e = (refl, e)

bye_append : (xs ys : List (List ℕ)) → has_bye xs ≡ false → has_bye ys ≡ false → has_bye (xs ++ ys) ≡ false
bye_append [] ys e f = f
bye_append (x ∷ xs) ys e f = let parts = both_false (is_bye (server_read x)) (has_bye xs) e in rw (parts.0, bye_append xs ys parts.1 f) refl

bye_before : (xs ys : List (List ℕ)) → has_bye (xs ++ ys) ≡ false → has_bye xs ≡ false
bye_before [] ys e = refl
bye_before (x ∷ xs) ys e = let parts = both_false (is_bye (server_read x)) (has_bye (xs ++ ys)) e in rw (parts.0, bye_before xs ys parts.1) refl

part_no_bye : (part whole : List (List ℕ)) → IsFirstPart part whole → has_bye whole ≡ false → has_bye part ≡ false
part_no_bye part whole f e = bye_before part f.0 (ap has_bye (sym f.1) ∙ e)

none_counted : (xs : List (List ℕ)) → count is_bye xs ≡ 0 → has_bye xs ≡ false
none_counted [] e = refl
none_counted (x ∷ xs) e = by (is_bye (server_read x)) refl (none_counted xs)
  where
    by : (b : Bool) → is_bye (server_read x) ≡ b → (count is_bye xs ≡ 0 → has_bye xs ≡ false) → (b || has_bye xs) ≡ false
    by true f later = absurd (omega (arith, e, ap one_if f))
    by false f later = later (omega (arith, e, ap one_if f))

-- a list doesn't go on behind itself
no_longer : (xs ys : List (List ℕ)) (y : List ℕ) → xs ≡ xs ++ y ∷ ys → ⊥
no_longer xs ys y e = let more : length xs ≡ length (xs ++ y ∷ ys) = ap length e in absurd (omega (arith, more, longer xs))
  where
    longer : (zs : List (List ℕ)) → length (zs ++ y ∷ ys) ≡ length zs + (length ys + 1)
    longer [] = omega arith
    longer (z ∷ zs) = omega (arith, longer zs)

bye_line : (why : Bye) → told_lines (server_text (Farewell why) ∷ []) ≡ server_text (Farewell why) ∷ []
bye_line why = rw (bye_reads why) refl

-- where another line follows, none of the lines before it is a bye
before_others : (s : Session) → IsInOrder s → count is_bye (message_lines_to_mark (stream_of s)) ≡ 0 → (read : List (List ℕ)) (text : List ℕ) (rest : List (List ℕ))
    → told_lines s.sent ≡ told_lines read ++ text ∷ rest → has_bye read ≡ false
before_others s order none read text rest e = by order
  where
    lines : List (List ℕ)
    lines = message_lines_to_mark (stream_of s)

    clear : has_bye (told_lines (message_lines_to_mark (stream_of s))) ≡ false
    clear = sym (bye_told (message_lines_to_mark (stream_of s))) ∙ none_counted (message_lines_to_mark (stream_of s)) none

    by : IsInOrder s → has_bye read ≡ false
    by (inl f) = bye_told read ∙ part_no_bye (told_lines read) (told_lines s.sent) (text ∷ rest, e) (ap (λ l. has_bye (told_lines l)) f ∙ clear)
    by (inr f) = parted (last_in (told_lines (message_lines_to_mark (stream_of s))) (server_text (Farewell f.0)) (told_lines read) (text ∷ rest) (whole ∙ e))
      where
        whole : told_lines (message_lines_to_mark (stream_of s)) ++ server_text (Farewell f.0) ∷ [] ≡ told_lines s.sent
        whole =
            ap (λ l. told_lines (message_lines_to_mark (stream_of s)) ++ l) (sym (bye_line f.0))
            ∙ sym (told_append (message_lines_to_mark (stream_of s)) (server_text (Farewell f.0) ∷ []))
            ∙ ap told_lines (sym f.1)

        parted : (told_lines read ≡ told_lines (message_lines_to_mark (stream_of s)) ++ server_text (Farewell f.0) ∷ []) ⊎ IsFirstPart (told_lines read) (told_lines (message_lines_to_mark (stream_of s))) → has_bye read ≡ false
        parted (inl all) = absurd (no_longer (told_lines read) rest text (all ∙ whole ∙ e))
        parted (inr part) = bye_told read ∙ part_no_bye (told_lines read) (told_lines (message_lines_to_mark (stream_of s))) part clear

module _ {X G : Type 0} (rules : X → Rules G) (c : ℕ) (lawful : (game : X) → Lawful (rules game)) (stays : StaysSound rules) (flat : StatesAreShallow rules) where
  module _ (w : World X G) (few : length w.hall.rooms ≤ 64) (fit : AllFit w.hall.rooms) (held : Held X G) (r : ℕ) (m : Met rules c w held r) (text : List ℕ) (rest : List (List ℕ)) (next : w.down c ≡ text ∷ rest) where
    known : Sent rules c lawful stays flat m.s
    known = sent_of rules c lawful stays flat w.hall.rooms few r (fit r) m.s m.before m.latest

    abbrev after : Client G
    after = (reads (rules held.game) held.client text).client

    -- a line that is passed over leaves the client
    passed_over : is_told (server_read text) ≡ false → after.gone ≡ held.client.gone
    passed_over e =
        let alike : IsLike (reads (rules held.game) held.client text).client (reads_all (rules held.game) held.client (told_lines (text ∷ [])))
        = all_alike (rules held.game) held.client held.client (Reads text ∷ []) (known_where rules c lawful stays flat w held r text rest m known next, tt) (like held.client) in
        alike.gone ∙ ap (λ b. (reads_all (rules held.game) held.client (if b then text ∷ [] else [])).gone) e

    whole_told : is_told (server_read text) ≡ true → told_lines m.s.sent ≡ told_lines m.read ++ text ∷ (told_lines rest ++ m.part.0)
    whole_told e =
        m.part.1
        ∙ ap (λ l. told_lines (m.read ++ l) ++ m.part.0) next
        ∙ ap (λ l. l ++ m.part.0) (told_append m.read (text ∷ rest))
        ∙ ap (λ b. (told_lines m.read ++ (if b then text ∷ told_lines rest else told_lines rest)) ++ m.part.0) e
        ∙ append_assoc (told_lines m.read) (text ∷ told_lines rest) m.part.0

    one_told : is_told (server_read text) ≡ true → told_lines (m.read ++ text ∷ []) ≡ told_lines m.read ++ text ∷ []
    one_told e = told_append m.read (text ∷ []) ∙ ap (λ b. told_lines m.read ++ (if b then text ∷ [] else [])) e

    read_on : (n : Match X G) → match_of rules r (history_of w.hall.rooms r) m.s.name.serial ≡ Some n → held.game ≡ n.game → is_told (server_read text) ≡ true → is_bye (server_read text) ≡ false → after.gone ≡ false
    read_on n of game told other =
        let there = is_there rules c w.hall.rooms r m.s m.before m.latest in
        let low : r ≤ 63 = omega (arith, there, few) in
        let is = session_is rules c w.hall.rooms r m.s m.before m.latest in
        let order : IsInOrder m.s = sent_aside m.s (good_session rules r (history_of w.hall.rooms r) c (length m.before) m.s is) in
        let none : has_bye m.read ≡ false = before_others m.s order (byes_sent m.s known.back) m.read text (told_lines rest ++ m.part.0) (whole_told told) in
        let part : IsFirstPart (told_lines (m.read ++ text ∷ [])) (told_lines m.s.sent)
        = (told_lines rest ++ m.part.0, whole_told told ∙ sym (one_line (told_lines m.read) text (told_lines rest ++ m.part.0)) ∙ ap (λ l. l ++ (told_lines rest ++ m.part.0)) (sym (one_told told))) in
        (like_next rules c lawful stays flat w held r text rest m known next).gone
        ∙ ap (λ x. (followed (rules x) (m.read ++ text ∷ [])).gone) game
        ∙ goes_on rules r low lawful stays (history_of w.hall.rooms r) (fit r) c (length m.before) m.s is
        (are_shallow rules r low lawful stays flat (history_of w.hall.rooms r) (fit r) c (length m.before) m.s is) n of (m.read ++ text ∷ []) part
        (bye_append m.read (text ∷ []) none (rw other refl))

    pub stays_here : (n : Match X G) → match_of rules r (history_of w.hall.rooms r) m.s.name.serial ≡ Some n → held.game ≡ n.game → held.client.gone ≡ false → is_bye (server_read text) ≡ false → after.gone ≡ false
    stays_here n of game here other = by (is_told (server_read text)) refl
      where
        by : (b : Bool) → is_told (server_read text) ≡ b → after.gone ≡ false
        by true e = read_on n of game e other
        by false e = passed_over e ∙ here
