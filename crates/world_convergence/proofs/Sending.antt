-- What a client sends, and how it is read where it arrives.
use Rattle.std.proofs.Common.{◌≡◌, ◌⊎◌, inl, inr, ◌≤◌, ◌<◌, ◌++◌, ◌==◌, ◌+◌, ℕ, zero, suc, Bool, true, false, nat_lt, List, [], ◌∷◌, length, replicate, Option, Some, None, Ok, Err, refl, ap, arith}
use Rattle.std.specs.Prelude.{Result}
use Rattle.std.proofs.lemmas.Bool.Decides.{nat_tests}
use Rattle.client_predict.specs.Acting.{line_key, submitted as act_of_client}
use Rattle.client_predict.specs.Client.{Held, Playing}
use Rattle.game_sheet.specs.MatchName.{Name}
use Rattle.game_trait.specs.Rules.{Rules}
use Rattle.hex.specs.Hex.{IsBytes}
use Rattle.json_tree.specs.Lines.{newline}
use Rattle.json_tree.specs.declared.lines.LineFault.TheVariants.{TooLong}
use Rattle.serde_json.specs.Data.{object}
use Rattle.serde_json.specs.Written.{compact_text}
use Rattle.sheet_json.specs.Seats.{IsWithin}
use Rattle.wire_json.specs.Asking.{AskedFits, AskedIsUtf8}
use Rattle.wire_json.specs.ClientReading.{client_read}
use Rattle.wire_json.specs.ClientText.{ClientFits, ClientIsUtf8, client_members, client_text}
use Rattle.wire_json.specs.KeyText.{IsKey}
use Rattle.wire_json.specs.MatchText.{IsName}
use Rattle.wire_json.specs.Refusals.{Refusal as Fault, Line}
use Rattle.wire_json.specs.declared.asked.Asked.{Asked}
use Rattle.wire_json.specs.declared.client.ClientMsg.{ClientMsg}
use Rattle.wire_json.specs.declared.client.ClientMsg.TheVariants as line
use Rattle.wire_json.specs.declared.protocol.Protocol.{Protocol}
use Rattle.wire_json.specs.declared.submission.Submission.{Submission}
use Rattle.wire_json.proofs.ClientLaws.{read_again, read_is}
use Rattle.wire_json.proofs.ClientWriting.{is_line_form}
use Rattle.hall_history.specs.Opening.{seat_key}
use Rattle.world_history.specs.WorldScript.{claim_of, key_of}
use Rattle.world_history.specs.Parts.{act_line}
use Rattle.world_convergence.proofs.Entries.{one_if}
use Rattle.world_convergence.proofs.Hearing.{PartFits, shown_fits}

-- a line is too long for the reader, or is read as what was written
abbrev pub ReadsAs : ClientMsg → List ℕ → Type 0
ReadsAs m text = ((fault : Fault) × (client_read text ≡ Err fault)) ⊎ (client_read text ≡ Ok m)

within_by : (m n : ℕ) → nat_lt m n ≡ false → n ≤ m
within_by m n e = grind (arith, nat_tests)

too_long : (text : List ℕ) → nat_lt 65536 (length text) ≡ true → (fault : Fault) × (client_read text ≡ Err fault)
unfolding client_read
too_long text e = rw e (Line TooLong, refl)

pub written_reads : (m : ClientMsg) → ClientFits m → ClientIsUtf8 m → ReadsAs m (client_text m)
unfolding client_text
written_reads m fits utf8 = by (nat_lt 65536 (length (compact_text (object (client_members m)) ++ newline))) refl
  where
    by : (b : Bool) → nat_lt 65536 (length (compact_text (object (client_members m)) ++ newline)) ≡ b → ReadsAs m (compact_text (object (client_members m)) ++ newline)
    by true e = inl (too_long (compact_text (object (client_members m)) ++ newline) e)
    by false e =
        inr (read_again (compact_text (object (client_members m)) ++ newline) m
        (is_line_form m fits utf8 (within_by 65536 (length (compact_text (object (client_members m)) ++ newline)) e)))

-- ---- keys

one_byte : (x : ℕ) (xs : List ℕ) → x < 256 → IsBytes xs → IsBytes (x ∷ xs)
one_byte x xs h k zero = h
one_byte x xs h k (suc i) = k i

no_bytes : IsBytes []
no_bytes i = omega arith

padded : (n x : ℕ) → x < 256 → IsBytes (replicate n 0 ++ x ∷ [])
padded zero x h = one_byte x [] h no_bytes
padded (suc n) x h = one_byte 0 (replicate n 0 ++ x ∷ []) (omega arith) (padded n x h)

zeros : (n : ℕ) → IsBytes (replicate n 0)
zeros zero = no_bytes
zeros (suc n) = one_byte 0 (replicate n 0) (omega arith) (zeros n)

seat_key_fits : (seat : ℕ) → seat ≤ 255 → IsKey (seat_key seat)
seat_key_fits seat h = (refl, padded 15 seat (omega (arith, h)))

abbrev pub KeyFits : Option (List ℕ) → Type 0
KeyFits None = Unit {0}
KeyFits (Some key) = IsKey key

pub key_fits : (seat : Option ℕ) → IsWithin 255 seat → KeyFits (key_of seat)
key_fits None h = tt
key_fits (Some seat) h = seat_key_fits seat h

zero_key : IsKey (replicate 16 0)
zero_key = (refl, zeros 16)

line_key_fits : (key : Option (List ℕ)) (seat : Option ℕ) → KeyFits key → IsKey (line_key key seat)
line_key_fits None seat h = zero_key
line_key_fits (Some key) None h = zero_key
line_key_fits (Some key) (Some seat) h = h

-- ---- the lines of a client

pub sync_reads : (name : Name) (seat : Option ℕ) (protocol : Protocol) → IsName name → IsWithin 255 seat → ReadsAs (line.Sync name (claim_of seat) protocol) (client_text (line.Sync name (claim_of seat) protocol))
sync_reads name None protocol named within = written_reads (line.Sync name (claim_of None) protocol) (named, tt) tt
sync_reads name (Some seat) protocol named within = written_reads (line.Sync name (claim_of (Some seat)) protocol) (named, (within, seat_key_fits seat within)) tt

pub act_reads : {X G : Type 0} (rules : X → Rules G) (held : Held X G) (p : Playing G) (asked : Asked) → KeyFits held.key → PartFits (rules held.game) p → AskedFits asked → AskedIsUtf8 asked
    → ReadsAs (line.Act (act_of_client (rules held.game) held.key p asked)) (act_line rules held p asked)
act_reads rules held p asked key fits form utf8 =
    written_reads (line.Act (act_of_client (rules held.game) held.key p asked))
    (form, line_key_fits held.key p.seat key, fits.name, shown_fits (rules held.game) p.seat p.settled p.waiting fits.number, fits.ticket) utf8

-- ---- what waits on the way up

-- a line is an act's, or no message
abbrev pub IsActLine : List ℕ → Type 0
IsActLine text = ((fault : Fault) × (client_read text ≡ Err fault)) ⊎ ((s : Submission) × (client_read text ≡ Ok (line.Act s)))

abbrev pub AreActLines : List (List ℕ) → Type 0
AreActLines [] = Unit {0}
AreActLines (text ∷ texts) = IsActLine text × AreActLines texts

pub one_act_more : (texts : List (List ℕ)) (text : List ℕ) → AreActLines texts → IsActLine text → AreActLines (texts ++ text ∷ [])
one_act_more [] text h k = (k, tt)
one_act_more (first ∷ texts) text h k = (h.0, one_act_more texts text h.1 k)

abbrev pub acted : ℕ → Result ClientMsg Fault → ℕ
acted ticket (Ok (line.Act s)) = one_if (s.ticket == ticket)
acted ticket read = 0

-- how many acts with a ticket are on the way
abbrev pub coming : ℕ → List (List ℕ) → ℕ
coming ticket [] = 0
coming ticket (text ∷ texts) = acted ticket (client_read text) + coming ticket texts

pub coming_append : (ticket : ℕ) (xs ys : List (List ℕ)) → coming ticket (xs ++ ys) ≡ coming ticket xs + coming ticket ys
coming_append ticket [] ys = omega arith
coming_append ticket (x ∷ xs) ys = omega (arith, coming_append ticket xs ys)

pub act_is_act : (s : Submission) (text : List ℕ) → ReadsAs (line.Act s) text → IsActLine text
act_is_act s text (inl e) = inl e
act_is_act s text (inr e) = inr (s, e)

pub act_comes : (s : Submission) (text : List ℕ) → ReadsAs (line.Act s) text → (ticket : ℕ) → acted ticket (client_read text) ≤ one_if (s.ticket == ticket)
act_comes s text (inl e) ticket = let none : acted ticket (client_read text) ≡ 0 = ap (acted ticket) e.1 in omega (arith, none)
act_comes s text (inr e) ticket = let one : acted ticket (client_read text) ≡ one_if (s.ticket == ticket) = ap (acted ticket) e in omega (arith, one)

-- an act that is read has a ticket of its type
pub ticket_fits : (text : List ℕ) (s : Submission) → client_read text ≡ Ok (line.Act s) → s.ticket ≤ 4294967295
ticket_fits text s e = (read_is text (line.Act s) e).1.4
