-- What each step of a world comes to where it is served, and what it counts.
use Rattle.std.proofs.Common.{◌≡◌, ◌++◌, ◌+◌, ℕ, Bool, true, false, List, [], ◌∷◌, Option, Some, None, codes, decimal, refl, sym, ap, subst, ◌∙◌}
use Rattle.std.specs.Prelude.{Result, Ok, Err, bytes_eq, is_some}
use Rattle.std.proofs.lemmas.List.{append_cancel_left, append_cancel_right}
use Rattle.any_game.specs.AnyRules.{any_rules, named}
use Rattle.any_game.specs.GameKind.{GameKind}
use Rattle.any_game.specs.declared.any_g.AnyG.{AnyG}
use Rattle.client_predict.specs.Acting.{act_no}
use Rattle.client_predict.specs.Client.{Held, Playing}
use Rattle.client_predict.specs.declared.told.ActNo.{ActNo}
use Rattle.client_predict.specs.declared.told.ActNo.TheVariants as why
use Rattle.client_predict.specs.declared.told.FeedNo.{FeedNo}
use Rattle.client_predict.specs.declared.told.FeedNo.TheVariants as unfed
use Rattle.client_predict.specs.declared.told.Predicted.{Predicted}
use Rattle.client_predict.specs.declared.told.Predicted.TheVariants.{Guessed, Sent}
use Rattle.client_predict.specs.declared.told.Told.{Told}
use Rattle.client_predict.specs.declared.told.Told.TheVariants.{Synced, Updated, Accepted, Refused, Again, Ended, Other}
use Rattle.game_hall.specs.Core.{is_again}
use Rattle.game_sheet.specs.declared.act.Bye.{Bye}
use Rattle.hall_history.specs.Counts.{hands_out}
use Rattle.hall_history.specs.Freeing.{frees}
use Rattle.hall_history.specs.Hall.{after_line}
use Rattle.hall_history.specs.Mark.{Mark, Served}
use Rattle.world_history.specs.Words.{act_no_word, heard_word, of_client, predicted_word}
use Rattle.world_history.specs.Workload.{is_held, is_read}
use Rattle.world_history.specs.World.{World, with_hall}
use Rattle.world_history.specs.WorldScript.{acts, acts_in, arrived, arrives, has_starved, prints_word, reads_in, takes}
use Rattle.room_history.specs.declared.call.RoomCall.TheVariants as call
use Rattle.room_history.specs.declared.reply.RoomReply.{RoomReply}
use Rattle.room_history.specs.declared.reply.RoomReply.TheVariants as reply
use Rattle.session_hall.specs.Held.{StandsForHall}
use Rattle.session_hall.specs.Requests.{Tallies}
use Rattle.session_driver.specs.declared.tally.Tally.{Tally}
use Rattle.wire_json.specs.declared.asked.Asked.{Asked}
use Rattle.client_world.specs.Counted.{HasActed, HasArrived, HasHanded, HasHandedReply, HasTaken, TellsHeld, TellsRead, handed_in}
use Rattle.client_world.specs.Counted.{HasRead as HasReadLine}
use Rattle.client_world.specs.IsWorld.{HeldWorld, IsWorld}
use Rattle.client_world.specs.Outcomes.{Acted, HasRead, ReadsNext, reads_next}
use Rattle.client_world.specs.Peers.{ArePeers}
use Rattle.client_world.proofs.Doing.{hands_nothing, took, unattached}
use Rattle.client_world.proofs.Unmarked.{served_line}

true_false : true ≡ false → ⊥
true_false e = cc

-- ---- words tell what came of a client

same_word : (c : ℕ) (word other : List ℕ) → of_client c word ≡ of_client c other → word ≡ other
same_word c word other e = behind (append_cancel_left (decimal c) _ _ (append_cancel_right _ _ (10 ∷ []) (ends word ∙ e ∙ sym (ends other))))
  where
    ends : (text : List ℕ) → (decimal c ++ 32 ∷ text) ++ 10 ∷ [] ≡ of_client c text
    ends text = refl

    behind : 32 ∷ word ≡ 32 ∷ other → word ≡ other
    behind e = cc

-- a word is not another
differ : (word other : List ℕ) → bytes_eq word other ≡ false → bytes_eq other other ≡ true → word ≡ other → ⊥
differ word other unlike alike e = true_false (sym alike ∙ ap (λ x. bytes_eq x other) (sym e) ∙ unlike)

-- ---- a client acts

abbrev IsOther : ActNo → Type 0
IsOther why.NoMemory = ⊥
IsOther other = Unit {0}

made_not_held : (told : Predicted) (unmade : ActNo) → act_no_word unmade ≡ predicted_word told → ⊥
made_not_held Guessed why.NotSynced e = differ _ _ refl refl e
made_not_held Guessed why.Gone e = differ _ _ refl refl e
made_not_held Guessed why.TooManyWaiting e = differ _ _ refl refl e
made_not_held Guessed why.NoMemory e = differ _ _ refl refl e
made_not_held Sent why.NotSynced e = differ _ _ refl refl e
made_not_held Sent why.Gone e = differ _ _ refl refl e
made_not_held Sent why.TooManyWaiting e = differ _ _ refl refl e
made_not_held Sent why.NoMemory e = differ _ _ refl refl e

again_not_held : (unmade : ActNo) → IsOther unmade → codes "again" ≡ act_no_word unmade → ⊥
again_not_held why.NotSynced o e = differ _ _ refl refl e
again_not_held why.Gone o e = differ _ _ refl refl e
again_not_held why.TooManyWaiting o e = differ _ _ refl refl e
again_not_held why.NoMemory o e = o

module _ (w : World GameKind AnyG) (c : ℕ) (asked : Asked) where
  abbrev pub By : Bool → Option (Held GameKind AnyG) → World GameKind AnyG
  By starved o = (acts any_rules starved w c o asked).0

  abbrev text_by : Bool → Option (Held GameKind AnyG) → List ℕ
  text_by starved o = (acts any_rules starved w c o asked).1

  made_in : (held : Held GameKind AnyG) (unmade : Option ActNo) (told : Predicted) → (acts_in any_rules w c held held.client.playing asked unmade).1 ≡ of_client c (predicted_word told)
      → is_some unmade ≡ false
  made_in held None told e = refl
  made_in held (Some unmade) told e = absurd (made_not_held told unmade (same_word c _ _ e))

  made_by : (starved : Bool) (o : Option (Held GameKind AnyG)) (told : Predicted) → text_by starved o ≡ of_client c (predicted_word told)
      → (By starved o ≡ By false o) × (is_held o ≡ false)
  made_by starved None told e = absurd (made_not_held told why.NotSynced (same_word c _ _ e))
  made_by true (Some held) told e = absurd (made_not_held told why.NoMemory (same_word c _ _ e))
  made_by false (Some held) told e = (refl, made_in held (act_no held.client.gone held.client.playing) told e)

  no_in : (held : Held GameKind AnyG) (playing : Option (Playing AnyG)) (unmade : ActNo) → (acts_in any_rules w c held playing asked (act_no held.client.gone playing)).1 ≡ of_client c (act_no_word unmade)
      → is_some (act_no held.client.gone playing) ≡ true
  no_in held None unmade e = refl
  no_in held (Some p) unmade e = by (act_no held.client.gone (Some p)) e
    where
      by : (q : Option ActNo) → (acts_in any_rules w c held (Some p) asked q).1 ≡ of_client c (act_no_word unmade) → is_some q ≡ true
      by (Some q) f = refl
      by None f = absurd (made_not_held _ unmade (sym (same_word c _ _ f)))

  no_by : (starved : Bool) (o : Option (Held GameKind AnyG)) (unmade : ActNo) → IsOther unmade → text_by starved o ≡ of_client c (act_no_word unmade)
      → (By starved o ≡ By false o) × (is_held o ≡ true)
  no_by starved None unmade other e = (refl, refl)
  no_by true (Some held) unmade other e = absurd (again_not_held unmade other (same_word c _ _ e))
  no_by false (Some held) unmade other e = (refl, no_in held held.client.playing unmade e)

  pub acts_hall : (o : Option (Held GameKind AnyG)) → (By false o).hall ≡ w.hall
  acts_hall None = refl
  acts_hall (Some held) = by held.client.playing (act_no held.client.gone held.client.playing)
    where
      by : (playing : Option (Playing AnyG)) (unmade : Option ActNo) → (acts_in any_rules w c held playing asked unmade).0.hall ≡ w.hall
      by playing (Some unmade) = refl
      by None None = refl
      by (Some p) None = refl

module _ (tape : ℕ → List ℕ) (w : World GameKind AnyG) (c : ℕ) (new : HeldWorld) (asked : Asked) where
  acted_by : (b : Bool) (told : Result Predicted ActNo) (a : Acted w c asked told new.peers) → StandsForHall tape new.hall w.hall
      → (By w c asked (has_starved a.mark) (w.clients c) ≡ By w c asked false (w.clients c)) × (is_held (w.clients c) ≡ b) → HasActed tape w c asked b new
  acted_by b told a hall same = record {
    stands = record {
      hall = subst (StandsForHall tape new.hall) (sym (acts_hall w c asked (w.clients c))) hall;
      peers = subst (ArePeers new.peers) same.0 a.peers;
    };
    is = sym same.1;
  }

  action_made : (told : Predicted) → Acted w c asked (Ok told) new.peers → StandsForHall tape new.hall w.hall → HasActed tape w c asked false new
  action_made told a hall = acted_by false (Ok told) a hall (made_by w c asked (has_starved a.mark) (w.clients c) told a.word)

  no_action : (unmade : ActNo) → IsOther unmade → Acted w c asked (Err unmade) new.peers → StandsForHall tape new.hall w.hall → HasActed tape w c asked true new
  no_action unmade other a hall = acted_by true (Err unmade) a hall (no_by w c asked (has_starved a.mark) (w.clients c) unmade other a.word)

  pub action_told : (told : Result Predicted ActNo) (held : Bool) → TellsHeld told held → Acted w c asked told new.peers → StandsForHall tape new.hall w.hall → HasActed tape w c asked held new
  action_told (Ok told) held e a hall = subst (λ b. HasActed tape w c asked b new) (sym e) (action_made told a hall)
  action_told (Err why.NotSynced) held e a hall = subst (λ b. HasActed tape w c asked b new) (sym e) (no_action why.NotSynced tt a hall)
  action_told (Err why.Gone) held e a hall = subst (λ b. HasActed tape w c asked b new) (sym e) (no_action why.Gone tt a hall)
  action_told (Err why.TooManyWaiting) held e a hall = subst (λ b. HasActed tape w c asked b new) (sym e) (no_action why.TooManyWaiting tt a hall)
  action_told (Err why.NoMemory) held e a hall = absurd e

-- ---- a client reads

abbrev begins_by : ℕ → List ℕ → Bool
begins_by b [] = false
begins_by b (x ∷ rest) = bytes_eq (x ∷ []) (b ∷ [])

not_quiet : (word : List ℕ) → begins_by 113 word ≡ false → word ≡ codes "quiet" → ⊥
not_quiet word unlike e = true_false (ap (λ x. begins_by 113 x) (sym e) ∙ unlike)

heard_not_quiet : (heard : Result Told FeedNo) → heard_word heard ≡ codes "quiet" → ⊥
heard_not_quiet (Ok Synced) e = not_quiet _ refl e
heard_not_quiet (Ok Updated) e = not_quiet _ refl e
heard_not_quiet (Ok (Accepted ticket)) e = not_quiet _ refl e
heard_not_quiet (Ok (Refused ticket reason)) e = not_quiet _ refl e
heard_not_quiet (Ok (Again ticket)) e = not_quiet _ refl e
heard_not_quiet (Ok (Ended bye)) e = not_quiet _ refl e
heard_not_quiet (Ok Other) e = not_quiet _ refl e
heard_not_quiet (Err unfed.Gone) e = not_quiet _ refl e
heard_not_quiet (Err unfed.BadLine) e = not_quiet _ refl e
heard_not_quiet (Err (unfed.OutOfStep have was)) e = not_quiet _ refl e
heard_not_quiet (Err (unfed.UnknownTicket ticket)) e = not_quiet _ refl e
heard_not_quiet (Err unfed.NoMemory) e = not_quiet _ refl e

module _ (w : World GameKind AnyG) (c : ℕ) where
  unread_by : (o : Option (Held GameKind AnyG)) (waiting : List (List ℕ)) → (reads_in any_rules w c o waiting).1 ≡ of_client c (codes "quiet") → false ≡ is_read o waiting
  unread_by None waiting e = refl
  unread_by (Some held) [] e = refl
  unread_by (Some held) (line ∷ rest) e = absurd (heard_not_quiet _ (same_word c _ _ e))

  read_by : (heard : Result Told FeedNo) (o : Option (Held GameKind AnyG)) (waiting : List (List ℕ)) → (reads_in any_rules w c o waiting).1 ≡ of_client c (heard_word heard) → true ≡ is_read o waiting
  read_by heard None waiting e = absurd (heard_not_quiet heard (same_word c _ _ (sym e)))
  read_by heard (Some held) [] e = absurd (heard_not_quiet heard (same_word c _ _ (sym e)))
  read_by heard (Some held) (line ∷ rest) e = refl

  pub reads_hall : (o : Option (Held GameKind AnyG)) (waiting : List (List ℕ)) → (reads_in any_rules w c o waiting).0.hall ≡ w.hall
  reads_hall None waiting = refl
  reads_hall (Some held) [] = refl
  reads_hall (Some held) (line ∷ rest) = refl

module _ (tape : ℕ → List ℕ) (w : World GameKind AnyG) (c : ℕ) (new : HeldWorld) where
  nothing_read : reads_next w c ≡ prints_word w c (codes "quiet") → StandsForHall tape new.hall w.hall → ArePeers new.peers w → HasReadLine tape w c false new
  nothing_read none hall peers = record {
    stands = subst (λ d. IsWorld tape new d.0) (sym none) (record { hall = hall; peers = peers });
    is = unread_by w c (w.clients c) (w.down c) (ap (λ d. d.1) none);
  }

  line_was_read : (heard : Result Told FeedNo) → HasRead w c heard new.peers → StandsForHall tape new.hall w.hall → HasReadLine tape w c true new
  line_was_read heard read hall = record {
    stands = record { hall = subst (StandsForHall tape new.hall) (sym (reads_hall w c (w.clients c) (w.down c))) hall; peers = read.peers };
    is = read_by w c heard (w.clients c) (w.down c) read.word;
  }

  pub reading_told : (heard : Option (Result Told FeedNo)) (read : Bool) → TellsRead heard read → ReadsNext w c heard new.peers → StandsForHall tape new.hall w.hall → HasReadLine tape w c read new
  reading_told None read e r hall = subst (λ b. HasReadLine tape w c b new) (sym e) (nothing_read r.0 hall r.1)
  reading_told (Some heard) read e r hall = subst (λ b. HasReadLine tape w c b new) (sym e.0) (line_was_read heard (r e.1) hall)

  -- ---- a line arrives

  pub line_arrived : (mark : Mark) (line : List ℕ) (rest : List (List ℕ)) (tally : Tally) → w.up c ≡ line ∷ rest
      → is_again (after_line named any_rules tape mark w.hall c line).1 ≡ false
      → IsWorld tape new (arrived w c rest (after_line named any_rules tape mark w.hall c line)).0
      → Tallies w.hall.rooms tally (after_line named any_rules tape mark w.hall c line).0.rooms → HasArrived tape w c tally new
  line_arrived mark line rest tally waits served is tallies =
      let same = served_line named any_rules tape w.hall c mark line served in
      record {
        stands = subst (λ ls. IsWorld tape new (arrives named any_rules tape Served w c ls).0) (sym waits) (subst (λ d. IsWorld tape new (arrived w c rest d).0) same is);
        tallies = subst (λ ls. Tallies w.hall.rooms tally (arrives named any_rules tape Served w c ls).0.hall.rooms) (sym waits) (subst (λ d. Tallies w.hall.rooms tally d.0.rooms) same tallies);
      }

  -- ---- a Take's reply

  pub handed_nothing : (told : RoomReply) (count : ℕ) → (told ≡ reply.NotAttached → ⊥) → ((bytes : List ℕ) (end : Option Bye) → told ≡ reply.Taken bytes end → ⊥)
      → HasHanded tape w c [] None count new → HasHandedReply tape w c told count new
  handed_nothing told count there isnt h = record {
    stands = (hands_nothing tape w c new [] told there isnt (record { stands = h.stands; prints = refl })).stands;
    is = h.is ∙ by told isnt;
  }
    where
      by : (told : RoomReply) → ((bytes : List ℕ) (end : Option Bye) → told ≡ reply.Taken bytes end → ⊥) → 0 ≡ hands_out told
      by (reply.Taken bytes end) isnt = absurd (isnt bytes end refl)
      by other isnt = refl

  -- and a Take

  pub took_counted : (told : RoomReply) (count : ℕ) → Some told ≡ (frees any_rules w.hall c call.Take).1 → HasHandedReply tape (with_hall w (frees any_rules w.hall c call.Take).0) c told count new
      → HasTaken tape w c count new
  took_counted told count there h =
      let hall = (frees any_rules w.hall c call.Take).0 in
      record {
        stands = (took tape w c new (takes any_rules (with_hall w hall) c (hall, Some told)).1 told there (record { stands = h.stands; prints = refl })).stands;
        is = h.is ∙ ap handed_in there;
      }

  pub none_taken : None ≡ (frees any_rules w.hall c call.Take).1 → StandsForHall tape new.hall (frees any_rules w.hall c call.Take).0 → ArePeers new.peers w → HasTaken tape w c 0 new
  none_taken none stands peers = record {
    stands = (unattached tape w c new (of_client c (codes "unattached")) none stands peers refl).stands;
    is = ap handed_in none;
  }
