-- What each step of a world comes to, by the calls that the code makes for it.
use Rattle.std.proofs.Common.{◌≡◌, ◌==◌, ◌++◌, ℕ, Bool, true, false, cond, List, [], ◌∷◌, Option, Some, None, codes, refl, sym, ap, subst, ◌∙◌, arith}
use Rattle.std.specs.Prelude.{length, nat_lt, Result, Ok, Err, IfOk, OnOk}
use Rattle.std.proofs.lemmas.Bool.{eqb-true, eqb-false}
use Rattle.any_game.specs.AnyRules.{any_rules, named}
use Rattle.any_game.specs.GameKind.{GameKind}
use Rattle.any_game.specs.declared.any_g.AnyG.{AnyG}
use Rattle.serde_json.specs.Data.{object}
use Rattle.serde_json.specs.Written.{compact_text}
use Rattle.game_hall.specs.Answers.{line_of, message_of}
use Rattle.game_hall.specs.Core.{text_said}
use Rattle.game_hall.specs.declared.answer.Answer.{Answer}
use Rattle.game_hall.specs.declared.answer.Answer.TheVariants as answer
use Rattle.game_sheet.specs.Lines.{lines}
use Rattle.game_sheet.specs.MatchName.{Name}
use Rattle.hall_history.specs.Freeing.{frees}
use Rattle.hall_history.specs.Parts.{frees_at}
use Rattle.hall_history.specs.Hall.{Hall, after_line}
use Rattle.hall_history.specs.Mark.{Mark, Served}
use Rattle.hall_history.specs.Opening.{after_open, opened_text, own_entry, seat_key}
use Rattle.world_history.specs.Words.{heard_word, of_client}
use Rattle.world_history.specs.World.{World, Acts, Arrives, Attaches, Leaves, Opens, Reads, Takes, with_client, with_down, with_hall, with_up}
use Rattle.world_history.specs.WorldScript.{acts, acts_in, answer_lines, arrived, arrives, claim_of, drops, has_starved, key_of, leaves_by, prints_word, reads_in, refused_text, takes}
use Rattle.client_predict.specs.Client.{Held, Playing, fresh}
use Rattle.client_predict.specs.Acting.{act_no}
use Rattle.client_predict.specs.declared.told.ActNo.{ActNo}
use Rattle.client_predict.specs.declared.told.FeedNo.{FeedNo}
use Rattle.client_predict.specs.declared.told.Predicted.{Predicted}
use Rattle.client_predict.specs.declared.told.Told.{Told}
use Rattle.room_history.specs.Session.{bytes_handed_out}
use Rattle.room_history.specs.declared.call.RoomCall.{RoomCall}
use Rattle.room_history.specs.declared.call.RoomCall.TheVariants as call
use Rattle.room_history.specs.declared.reply.RoomReply.{RoomReply}
use Rattle.room_history.specs.declared.reply.RoomReply.TheVariants as reply
use Rattle.room_object.specs.Entry.{Entry}
use Rattle.session_hall.specs.Answered.{leaving, leaving_by, made_text}
use Rattle.session_hall.specs.Held.{StandsForHall}
use Rattle.session_hall.specs.Opens.{made_by}
use Rattle.game_sheet.specs.declared.act.Bye.{Bye}
use Rattle.wire_json.specs.ClientText.{client_text}
use Rattle.wire_json.specs.RefusalText.{refusal_text}
use Rattle.wire_json.specs.ServerText.{server_members, text as server_text}
use Rattle.wire_json.specs.declared.asked.Asked.{Asked}
use Rattle.wire_json.specs.declared.client.ClientMsg.TheVariants.{Sync}
use Rattle.wire_json.specs.declared.protocol.Protocol.{Protocol}
use Rattle.wire_json.specs.declared.refusal.Refusal.TheVariants.{NoMatch}
use Rattle.client_world.specs.IsWorld.{HasDone, HeldWorld, IsWorld}
use Rattle.client_world.specs.Outcomes.{Acted, Hands, HandsReply, HasRead, acted_word, leaving_text, reads_next}
use Rattle.client_world.specs.Peers.{ArePeers}

module _ (tape : ℕ → List ℕ) (w : World GameKind AnyG) (c : ℕ) (new : HeldWorld) (text : List ℕ) where
  -- ---- a line arrives

  pub quiet_link : w.up c ≡ [] → IsWorld tape new w → text ≡ of_client c (codes "quiet") → HasDone tape w (Arrives c) new text
  quiet_link none is told = record {
    mark = Served;
    stands = subst (λ ls. IsWorld tape new (arrives named any_rules tape Served w c ls).0) (sym none) is;
    prints = told ∙ sym (ap (λ ls. (arrives named any_rules tape Served w c ls).1) none);
  }

  pub arrived_line : (mark : Mark) (line : List ℕ) (rest : List (List ℕ)) → w.up c ≡ line ∷ rest
      → IsWorld tape new (arrived w c rest (after_line named any_rules tape mark w.hall c line)).0
      → text ≡ (arrived w c rest (after_line named any_rules tape mark w.hall c line)).1 → HasDone tape w (Arrives c) new text
  arrived_line mark line rest waits is told = record {
    mark = mark;
    stands = subst (λ ls. IsWorld tape new (arrives named any_rules tape mark w c ls).0) (sym waits) is;
    prints = told ∙ sym (ap (λ ls. (arrives named any_rules tape mark w c ls).1) waits);
  }

  -- ---- a Take

  none_freed : (at : Option ℕ) → (frees_at any_rules w.hall c call.Take at).1 ≡ None → (frees_at any_rules w.hall c call.Take at).0 ≡ w.hall
  none_freed None e = refl
  none_freed (Some room) e = absurd (cc)

  pub unattached : None ≡ (frees any_rules w.hall c call.Take).1 → StandsForHall tape new.hall (frees any_rules w.hall c call.Take).0 → ArePeers new.peers w
      → text ≡ of_client c (codes "unattached") → HasDone tape w (Takes c) new text
  unattached none stands peers told = record {
    mark = Served;
    stands = subst (λ o. IsWorld tape new (takes any_rules w c ((frees any_rules w.hall c call.Take).0, o)).0) none
        (record { hall = subst (StandsForHall tape new.hall) (none_freed (w.hall.at c) (sym none)) stands; peers = peers });
    prints = told ∙ ap (λ o. (takes any_rules w c ((frees any_rules w.hall c call.Take).0, o)).1) none;
  }

  taken_is : (h : Hall GameKind) (told : RoomReply) → (told ≡ reply.NotAttached → ⊥)
      → takes any_rules w c (h, Some told) ≡ (with_down (with_hall w h) c (w.down c ++ lines (bytes_handed_out told)), [])
  taken_is h reply.NotAttached isnt = absurd (isnt refl)
  taken_is h told isnt = refl

  -- what hands nothing out
  nothing_out : (told : RoomReply) → ((bytes : List ℕ) (end : Option Bye) → told ≡ reply.Taken bytes end → ⊥) → bytes_handed_out told ≡ []
  nothing_out (reply.Taken bytes end) isnt = absurd (isnt bytes end refl)
  nothing_out told isnt = refl

  pub hands_nothing : (told : RoomReply) → (told ≡ reply.NotAttached → ⊥) → ((bytes : List ℕ) (end : Option Bye) → told ≡ reply.Taken bytes end → ⊥)
      → Hands tape w c [] None new text → HandsReply tape w c told new text
  hands_nothing told there isnt h =
      let done : takes any_rules w c (w.hall, Some told) ≡ (with_down w c (w.down c ++ []), []) =
      taken_is w.hall told there ∙ ap (λ bytes. (with_down w c (w.down c ++ lines bytes), [])) (nothing_out told isnt) in
      record { stands = subst (λ d. IsWorld tape new d.0) (sym done) h.stands; prints = h.prints ∙ sym (ap (λ d. d.1) done) }

  -- the reply has been handed out in a world with the hall after the Take
  same_taken : (h : Hall GameKind) (told : RoomReply) → takes any_rules (with_hall w h) c (h, Some told) ≡ takes any_rules w c (h, Some told)
  same_taken h reply.NotAttached = refl
  same_taken h told = refl

  pub took : (told : RoomReply) → Some told ≡ (frees any_rules w.hall c call.Take).1 → HandsReply tape (with_hall w (frees any_rules w.hall c call.Take).0) c told new text
      → HasDone tape w (Takes c) new text
  took told there h =
      let hall = (frees any_rules w.hall c call.Take).0 in
      let done : takes any_rules (with_hall w hall) c (hall, Some told) ≡ takes any_rules w c (frees any_rules w.hall c call.Take) =
      same_taken hall told ∙ ap (λ o. takes any_rules w c (hall, o)) there in
      record {
        mark = Served;
        stands = subst (λ d. IsWorld tape new d.0) done h.stands;
        prints = h.prints ∙ ap (λ d. d.1) done;
      }

  -- ---- a client reads

  reads_hall : (o : Option (Held GameKind AnyG)) (ls : List (List ℕ)) → (reads_in any_rules w c o ls).0.hall ≡ w.hall
  reads_hall None ls = refl
  reads_hall (Some held) [] = refl
  reads_hall (Some held) (line ∷ rest) = refl

  pub read_nothing : reads_next w c ≡ prints_word w c (codes "quiet") → IsWorld tape new w → text ≡ of_client c (codes "quiet") → HasDone tape w (Reads c) new text
  read_nothing none is told = record {
    mark = Served;
    stands = subst (λ d. IsWorld tape new d.0) (sym none) is;
    prints = told ∙ sym (ap (λ d. d.1) none);
  }

  pub line_read : (heard : Result Told FeedNo) → HasRead w c heard new.peers → StandsForHall tape new.hall w.hall → text ≡ of_client c (heard_word heard) → HasDone tape w (Reads c) new text
  line_read heard read stands told = record {
    mark = Served;
    stands = record { hall = subst (StandsForHall tape new.hall) (sym (reads_hall (w.clients c) (w.down c))) stands; peers = read.peers };
    prints = told ∙ sym read.word;
  }

  -- ---- a client acts

  acts_in_hall : (held : Held GameKind AnyG) (playing : Option (Playing AnyG)) (asked : Asked) (why : Option ActNo) → (acts_in any_rules w c held playing asked why).0.hall ≡ w.hall
  acts_in_hall held playing asked (Some why) = refl
  acts_in_hall held None asked None = refl
  acts_in_hall held (Some p) asked None = refl

  acts_hall : (starved : Bool) (o : Option (Held GameKind AnyG)) (asked : Asked) → (acts any_rules starved w c o asked).0.hall ≡ w.hall
  acts_hall starved None asked = refl
  acts_hall true (Some held) asked = refl
  acts_hall false (Some held) asked = acts_in_hall held held.client.playing asked (act_no held.client.gone held.client.playing)

  pub acted : (asked : Asked) (told : Result Predicted ActNo) → Acted w c asked told new.peers → StandsForHall tape new.hall w.hall → text ≡ of_client c (acted_word told)
      → HasDone tape w (Acts c asked) new text
  acted asked told a stands is = record {
    mark = a.mark;
    stands = record { hall = subst (StandsForHall tape new.hall) (sym (acts_hall (has_starved a.mark) (w.clients c) asked)) stands; peers = a.peers };
    prints = is ∙ sym a.word;
  }

-- ---- an open and a leaving

made_is : (said : Option Answer) → made_text (made_by said) ≡ opened_text said
made_is (Some (answer.Created name)) = refl
made_is said = refl

pub opened : (tape : ℕ → List ℕ) (w : World GameKind AnyG) (game : List ℕ) (seats : ℕ) (new : HeldWorld) (text : List ℕ) (made : Option Name)
    → StandsForHall tape new.hall (after_open named any_rules tape w.hall game seats).0 → ArePeers new.peers w
    → made ≡ made_by (after_open named any_rules tape w.hall game seats).1 → text ≡ made_text made → HasDone tape w (Opens game seats) new text
opened tape w game seats new text made stands peers is told = record {
  mark = Served;
  stands = record { hall = stands; peers = peers };
  prints = told ∙ ap made_text is ∙ made_is (after_open named any_rules tape w.hall game seats).1;
}

module _ (tape : ℕ → List ℕ) (w : World GameKind AnyG) (room : ℕ) (e : Entry (RoomCall GameKind)) (new : HeldWorld) (told : Option RoomReply) (text : List ℕ) where
  left_if : (b : Bool) → StandsForHall tape new.hall (cond b (leaving_by w.hall room e) (w.hall, None)).0 → ArePeers new.peers w
      → told ≡ (cond b (leaving_by w.hall room e) (w.hall, None)).1 → text ≡ leaving_text told
      → IsWorld tape new (cond b (leaves_by any_rules w room e) (w, refused_text (refusal_text NoMatch))).0
      × (text ≡ (cond b (leaves_by any_rules w room e) (w, refused_text (refusal_text NoMatch))).1)
  left_if true stands peers is printed = (record { hall = stands; peers = peers }, printed ∙ ap leaving_text is)
  left_if false stands peers is printed = (record { hall = stands; peers = peers }, printed ∙ ap leaving_text is)

pub left : (tape : ℕ → List ℕ) (w : World GameKind AnyG) (name : Name) (seat : ℕ) (new : HeldWorld) (told : Option RoomReply) (text : List ℕ)
    → StandsForHall tape new.hall (leaving w.hall name seat).0 → ArePeers new.peers w → told ≡ (leaving w.hall name seat).1 → text ≡ leaving_text told
    → HasDone tape w (Leaves name seat) new text
left tape w name seat new told text stands peers is printed =
    let done = left_if tape w name.room (own_entry (call.Leave name.serial seat (seat_key seat))) new told text (nat_lt name.room (length w.hall.rooms)) stands peers is printed in
    record { mark = Served; stands = done.0; prints = done.1 }

-- ---- a direct answer: its line is some bytes

has_some : (bytes : List ℕ) → bytes ++ 10 ∷ [] ≡ [] → ⊥
has_some [] e = cc
has_some (b ∷ bytes) e = cc

some_line : (a : Answer) → line_of a ≡ [] → ⊥
unfolding server_text
some_line a e = has_some (compact_text (object (server_members (message_of a)))) e

pub no_answer : (said : Option Answer) → text_said said ≡ [] → answer_lines said ≡ []
no_answer None e = refl
no_answer (Some a) e = absurd (some_line a e)

pub one_answer : (said : Option Answer) (line : List ℕ) → line ≡ text_said said → (line ≡ [] → ⊥) → answer_lines said ≡ line ∷ []
one_answer None line e some = absurd (some e)
one_answer (Some a) line e some = ap (λ l. l ∷ []) (sym e)

-- ---- a client comes and goes

pub attached : (tape : ℕ → List ℕ) (w : World GameKind AnyG) (c : ℕ) (game : GameKind) (name : Name) (seat : Option ℕ) (protocol : Protocol) (new : HeldWorld) (text : List ℕ)
    (held : Held GameKind AnyG) (line : List ℕ) → held ≡ record { game = game; key = key_of seat; client = fresh } → line ≡ client_text (Sync name (claim_of seat) protocol)
    → IsWorld tape new (with_up (with_client (drops any_rules w c) c held) c (line ∷ [])) → text ≡ [] → HasDone tape w (Attaches c game name seat protocol) new text
attached tape w c game name seat protocol new text held line is_held is_line is none = record {
  mark = Served;
  stands = subst (λ l. IsWorld tape new (with_up (with_client (drops any_rules w c) c (record { game = game; key = key_of seat; client = fresh })) c (l ∷ []))) is_line
      (subst (λ h. IsWorld tape new (with_up (with_client (drops any_rules w c) c h) c (line ∷ []))) is_held is);
  prints = none;
}

pub is_none : (n : ℕ) (bytes : List ℕ) → n ≡ length bytes → (n == 0) ≡ true → bytes ≡ []
is_none n [] l e = refl
is_none n (b ∷ bytes) l e = absurd (omega (arith, eqb-true n 0 e, l))

pub is_some : (n : ℕ) (bytes : List ℕ) → n ≡ length bytes → (n == 0) ≡ false → bytes ≡ [] → ⊥
is_some n bytes l e none = eqb-false n 0 e (l ∙ ap length none)

-- what is known of a value, and beside it
pub both : {T E : Type 0} (r : Result T E) (P : T → Type 0) (Q : Type 0) (R : T → Type 0) → ((x : T) → P x → Q → R x) → IfOk r P → OnOk r Q → IfOk r R
both (Ok x) P Q R f p q = f x p q
both (Err e) P Q R f p q = tt
