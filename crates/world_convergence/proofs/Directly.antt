-- How the direct answers to syncs and acts are read: each is passed over, and answers an act only where it gives back its ticket.
use Rattle.std.proofs.Common.{◌≡◌, inl, inr, ◌≤◌, ◌++◌, ◌==◌, ◌+◌, ℕ, false, List, [], ◌∷◌, Option, Some, None, Ok, refl, sym, ap, subst, arith}
use Rattle.json_tree.specs.Lines.{newline}
use Rattle.serde_json.specs.Data.{object, depth}
use Rattle.serde_json.specs.Read.{max_depth}
use Rattle.serde_json.specs.Written.{compact_text}
use Rattle.sheet_json.specs.Seats.{IsWithin}
use Rattle.wire_json.specs.RefusalText.{refusal_field}
use Rattle.wire_json.specs.ServerReading.{ServerFits, server_read}
use Rattle.wire_json.specs.ServerText.{field_or_null, server_members, text}
use Rattle.wire_json.specs.declared.refusal.Member.{Member}
use Rattle.wire_json.specs.declared.refusal.Refusal.{Refusal}
use Rattle.wire_json.specs.declared.server.ServerMsg.{ServerMsg}
use Rattle.wire_json.specs.declared.server.ServerMsg.TheVariants as message
use Rattle.json_back.specs.Told.{AreTold}
use Rattle.wire_json.proofs.ServerLaws.{server_read_again}
use Rattle.wire_json.proofs.ServerTelling.{again_told, refused_told}
use Rattle.wire_json.proofs.ServerWriting.{is_line_form}
use Rattle.game_hall.specs.Answers.{line_of}
use Rattle.game_hall.specs.declared.answer.Answer.{Answer}
use Rattle.game_hall.specs.declared.answer.Answer.TheVariants.{Again, Refused}
use Rattle.convergence.specs.Doing.{ticket_in}
use Rattle.client_predict.specs.Following.{is_told}
use Rattle.world_convergence.proofs.Arriving.{IsActAnswer, IsPlainAnswer}
use Rattle.world_convergence.proofs.Counting.{answers, count}
use Rattle.world_convergence.proofs.Entries.{one_if}

text_reads : (m : ServerMsg) → ServerFits m → AreTold (server_members m) → depth (object (server_members m)) ≤ max_depth → server_read (text m) ≡ Ok m
unfolding text
text_reads m fits told deep = server_read_again (compact_text (object (server_members m)) ++ newline) m (is_line_form m fits told deep)

field_flat : (field : Option Member) → depth (field_or_null field) ≤ 1
field_flat None = omega arith
field_flat (Some field) = omega arith

pub refused_reads : (why : Refusal) → server_read (line_of (Refused why)) ≡ Ok (message.Refused why)
refused_reads why = let flat : depth (field_or_null (refusal_field why)) ≤ 1 = field_flat (refusal_field why) in text_reads (message.Refused why) tt (refused_told why) (omega (arith, flat))

again_flat : (ticket : Option ℕ) → depth (object (server_members (message.Again ticket))) ≤ max_depth
again_flat None = omega arith
again_flat (Some ticket) = omega arith

pub again_reads : (ticket : Option ℕ) → IsWithin 4294967295 ticket → server_read (line_of (Again ticket)) ≡ Ok (message.Again ticket)
again_reads ticket h = text_reads (message.Again ticket) h (again_told ticket h) (again_flat ticket)

-- a line that is passed over and answers no act
pub record IsQuiet (line : List ℕ) : Type 0 where
  pub untold : is_told (server_read line) ≡ false
  pub none : ticket_in (server_read line) ≡ None

pub plain_quiet : (a : Answer) → IsPlainAnswer a → IsQuiet (line_of a)
plain_quiet a (inl e) = subst (λ b. IsQuiet (line_of b)) (sym e) (record { untold = ap is_told (again_reads None tt); none = ap ticket_in (again_reads None tt) })
plain_quiet a (inr e) = subst (λ b. IsQuiet (line_of b)) (sym e.1) (record { untold = ap is_told (refused_reads e.0); none = ap ticket_in (refused_reads e.0) })

pub quiet_counts : (line : List ℕ) → IsQuiet line → (ticket : ℕ) → count (answers ticket) (line ∷ []) ≡ 0
quiet_counts line q ticket = rw q.none refl

-- an answer to an act with a ticket
pub record IsForAct (ticket : ℕ) (line : List ℕ) : Type 0 where
  pub untold : is_told (server_read line) ≡ false
  pub one : (t : ℕ) → count (answers t) (line ∷ []) ≤ one_if (ticket == t)

pub act_answered : (ticket : ℕ) (a : Answer) → ticket ≤ 4294967295 → IsActAnswer ticket a → IsForAct ticket (line_of a)
act_answered ticket a h (inl plain) = let q = plain_quiet a plain in record { untold = q.untold; one = λ t. omega (arith, quiet_counts (line_of a) q t) }
act_answered ticket a h (inr e) = subst (λ b. IsForAct ticket (line_of b)) (sym e) (record {
  untold = ap is_told (again_reads (Some ticket) h);
  one = λ t. omega (arith, counted t);
})
  where
    counted : (t : ℕ) → count (answers t) (line_of (Again (Some ticket)) ∷ []) ≡ one_if (ticket == t) + 0
    counted t = rw (again_reads (Some ticket) h) refl
