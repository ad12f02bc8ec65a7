-- A change that was made, or that the room doesn't accept, by the calls that ask for it.
use Rattle.std.proofs.Common.{◌≡◌, ◌≤◌, ℕ, Bool, true, false, is_some, if◌then◌else◌, List, [], ◌∷◌, ◌++◌, replicate, slice_set, Option, Some, None, option_map, option_and_then, Result, Ok, Err, bytes_eq, refl, sym, ap, ◌∙◌, subst}
use Rattle.std.proofs.lemmas.List.{map-append}
use Rattle.std.proofs.lemmas.Slice.Eq.{bytes_eq-Decides}
use Rattle.any_game.specs.AnyRules.{any_rules}
use Rattle.any_game.specs.GameKind.{GameKind}
use Rattle.any_game.specs.declared.any_g.AnyG.{AnyG}
use Rattle.json_tree.specs.Lines.{text_read}
use Rattle.json_tree.specs.declared.lines.LineFault.{LineFault}
use Rattle.serde_json.specs.Data.{object, Members}
use Rattle.room_object.specs.Entry.{Entry, entry}
use Rattle.match_master.specs.Held.{Held}
use Rattle.object_journal.specs.declared.replaying.Replayed.{Replayed}
use Rattle.object_journal.specs.declared.replaying.Replayed.TheVariants as replayed
use Rattle.object_journal.specs.Replaying.{HasMade, Replay}
use Rattle.room_history.specs.Match.{Match}
use Rattle.room_history.specs.Room.{reply, serials, standing, viewer_of}
use Rattle.room_history.specs.declared.call.RoomCall.{RoomCall}
use Rattle.room_history.specs.declared.call.RoomCall.TheVariants.{Create, Join, Rename, Leave, Clear}
use Rattle.room_history.specs.Reply.{created_match, named_match, reply_by, reseated_match}
use Rattle.room_history.specs.declared.reply.RoomReply.TheVariants as answer
use Rattle.seat_roster.specs.Roster.{join, rename, leave}
use Rattle.room_changes.specs.ChangesOf.{change_asked, change_made, changes_of, is_accepted}
use Rattle.room_changes.specs.Kept.{Kept, kept, kept_from, kept_with}
use Rattle.room_changes.specs.declared.change.Change.{Change}
use Rattle.room_changes.specs.declared.change.Change.TheVariants as change
use Rattle.room_changes.proofs.Making.{kept_more, makes}
use Rattle.change_text.specs.Payload.{payload}
use Rattle.change_text.specs.Reading.{Found, change_in, change_of_line, change_read}
use Rattle.room_journal.specs.Kept.{changes_read, may_follow, room_records, texts}
use Rattle.room_journal.specs.Coming.{Calls, Does, Fits, HasCome, StandsIn}
use Rattle.room_journal.specs.declared.room_book.RoomBook.{RoomBook}
use Rattle.room_journal.proofs.Steps.{cleared_refused, created_refused, fits_step, keys_after, left_refused, reseated_refused}
use Rattle.std.specs.Option.{option_map_or}

-- ---- payloads

text_if : (b : Bool) (text : List ℕ) (c d : Change GameKind) → bytes_eq (payload any_rules d) text ≡ b → (if b then Some d else None) ≡ Some c → payload any_rules c ≡ text
text_if true text c d is e = let same : d ≡ c = cc in subst (λ (x : Change GameKind). payload any_rules x ≡ text) same ((bytes_eq-Decides (payload any_rules d) text).0 is)
text_if false text c d is e = absurd (cc)

text_found : (text : List ℕ) (found : Found) (c : Change GameKind) → option_and_then (λ c. if bytes_eq (payload any_rules c) text then Some c else None) found ≡ Some c → payload any_rules c ≡ text
text_found text None c e = absurd (cc)
text_found text (Some d) c e = text_if (bytes_eq (payload any_rules d) text) text c d refl e

text_line : (text : List ℕ) (line : Result Members LineFault) (c : Change GameKind) → change_of_line text line ≡ Some c → payload any_rules c ≡ text
text_line text (Ok ms) c e = text_found text (change_in (object ms)) c e
text_line text (Err fault) c e = absurd (cc)

-- what reads as a change is its text
pub text_is : (text : List ℕ) (c : Change GameKind) → change_read text ≡ Some c → payload any_rules c ≡ text
unfolding change_read
text_is text c e = text_line text (text_read text) c e

with_more : (o : Option (Change GameKind)) (a b : Option (List (Change GameKind))) (c : Change GameKind) → b ≡ option_map (λ cs. cs ++ c ∷ []) a → option_and_then (λ c. option_map (λ cs. c ∷ cs) b) o ≡ option_map (λ cs. cs ++ c ∷ []) (option_and_then (λ c. option_map (λ cs. c ∷ cs) a) o)
with_more None a b c e = refl
with_more (Some d) None b c e = ap (option_map (λ cs. d ∷ cs)) e
with_more (Some d) (Some cs) b c e = ap (option_map (λ cs. d ∷ cs)) e

read_one : (p : List ℕ) (c : Change GameKind) → change_read p ≡ Some c → changes_read (p ∷ []) ≡ Some (c ∷ [])
read_one p c e = ap (λ (o : Option (Change GameKind)). option_and_then (λ c. option_map (λ cs. c ∷ cs) (Some [])) o) e

read_more : (records : List (List ℕ)) (p : List ℕ) (c : Change GameKind) → change_read p ≡ Some c → changes_read (records ++ p ∷ []) ≡ option_map (λ cs. cs ++ c ∷ []) (changes_read records)
read_more [] p c e = read_one p c e
read_more (r ∷ records) p c e = with_more (change_read r) (changes_read records) (changes_read (records ++ p ∷ [])) c (read_more records p c e)

with_none : (o : Option (Change GameKind)) (a : Option (List (Change GameKind))) → a ≡ None → option_and_then (λ c. option_map (λ cs. c ∷ cs) a) o ≡ None
with_none None a e = refl
with_none (Some d) a e = ap (option_map (λ cs. d ∷ cs)) e

read_none : (records : List (List ℕ)) (p : List ℕ) → change_read p ≡ None → changes_read (records ++ p ∷ []) ≡ None
read_none [] p e = ap (λ (o : Option (Change GameKind)). option_and_then (λ c. option_map (λ cs. c ∷ cs) (Some [])) o) e
read_none (r ∷ records) p e = with_none (change_read r) (changes_read (records ++ p ∷ [])) (read_none records p e)

module _ (room : ℕ) where
  abbrev pub Entries : Type 0
  Entries = List (Entry (RoomCall GameKind))

  abbrev pub kept_of : Entries → Kept GameKind AnyG
  kept_of h = record { serials = serials any_rules room h; standing = standing any_rules room h }

  last : (o : Option (Kept GameKind AnyG)) → option_and_then (λ next. kept_from any_rules room next []) o ≡ o
  last None = refl
  last (Some k) = refl

  -- one change more
  pub kept_next : (h : Entries) (c : Change GameKind) → kept any_rules room (changes_of any_rules room h ++ c ∷ []) ≡ kept_with any_rules room (kept_of h) c
  kept_next h c =
      kept_more any_rules room (changes_of any_rules room h) (c ∷ []) (record { serials = 0; standing = None })
      ∙ ap (option_and_then (λ n. kept_from any_rules room n (c ∷ []))) (makes any_rules room h)
      ∙ last (kept_with any_rules room (kept_of h) c)

  pub done_step : (h after : Entries) (c : Change GameKind) → changes_of any_rules room after ≡ changes_of any_rules room h ++ c ∷ [] → kept_with any_rules room (kept_of h) c ≡ Some (kept_of after)
  done_step h after c e = sym (kept_next h c) ∙ ap (kept any_rules room) (sym e) ∙ makes any_rules room after

  pub done_fits : (h after : Entries) (c : Change GameKind) (keys : List (Option (List ℕ))) → changes_of any_rules room after ≡ changes_of any_rules room h ++ c ∷ [] → Fits keys (serials any_rules room h) (standing any_rules room h)
      → Fits (keys_after keys c) (serials any_rules room after) (standing any_rules room after)
  done_fits h after c keys e fits = fits_step any_rules room keys (kept_of h) (kept_of after) c (done_step h after c e) fits

  pub adds : (h : Entries) (pass : ℕ) (call : RoomCall GameKind) (c : Change GameKind) → is_accepted (reply any_rules room h (entry pass call false)) ≡ true → change_asked (viewer_of any_rules room h pass) call ≡ Some c
      → changes_of any_rules room (entry pass call false ∷ h) ≡ changes_of any_rules room h ++ c ∷ []
  adds h pass call c t e =
      ap (λ (b : Bool). changes_of any_rules room h ++ change_made b (change_asked (viewer_of any_rules room h pass) call)) t
      ∙ ap (λ (o : Option (Change GameKind)). changes_of any_rules room h ++ change_made true o) e

  -- a call that is its change, made or not
  pub does_call : (h : Entries) (pass : ℕ) (call : RoomCall GameKind) (c : Change GameKind) (book : Held GameKind AnyG) (keys after : List (Option (List ℕ))) (r : Replayed)
      → change_asked (viewer_of any_rules room h pass) call ≡ Some c
      → Fits keys (serials any_rules room h) (standing any_rules room h)
      → (r ≡ replayed.Done → after ≡ keys_after keys c)
      → (is_accepted (reply any_rules room h (entry pass call false)) ≡ false → kept_with any_rules room (kept_of h) c ≡ None)
      → Calls room h pass call book r → Does room h c book after r
  does_call h pass call c book keys after replayed.Done e fits is denied so = record {
    after = entry pass call false ∷ h;
    stands = so.0;
    adds = adds h pass call c so.1 e;
    fits = subst (λ (l : List (Option (List ℕ))). Fits l (serials any_rules room (entry pass call false ∷ h)) (standing any_rules room (entry pass call false ∷ h))) (sym (is refl)) (done_fits h (entry pass call false ∷ h) c keys (adds h pass call c so.1 e) fits);
  }
  does_call h pass call c book keys after replayed.Refused e fits is denied so = kept_next h c ∙ denied so.1
  does_call h pass call c book keys after replayed.NoMemory e fits is denied so = tt

  -- ---- calls

  create_refused : (h : Entries) (pass : ℕ) (game : GameKind) (seats : ℕ) (seed : List ℕ) → is_accepted (reply any_rules room h (entry pass (Create game seats seed) false)) ≡ false → kept_with any_rules room (kept_of h) (change.Create game seats seed) ≡ None
  unfolding reply
  create_refused h pass game seats seed e = created_refused any_rules room (created_match any_rules (serials any_rules room h) (standing any_rules room h) game seats seed) e

  pub made_create : (h : Entries) (pass : ℕ) (game : GameKind) (seats : ℕ) (seed : List ℕ) (book : Held GameKind AnyG) (keys after : List (Option (List ℕ))) (r : Replayed) → Fits keys (serials any_rules room h) (standing any_rules room h) → after ≡ replicate seats None
      → Calls room h pass (Create game seats seed) book r → Does room h (change.Create game seats seed) book after r
  made_create h pass game seats seed book keys after r fits is so = does_call h pass (Create game seats seed) (change.Create game seats seed) book keys after r refl fits (λ _. is) (create_refused h pass game seats seed) so

  join_refused : (h : Entries) (pass serial seat : ℕ) (name key : List ℕ) (keys : List (Option (List ℕ))) → serial ≡ serials any_rules room h → Fits keys (serials any_rules room h) (standing any_rules room h)
      → is_accepted (reply any_rules room h (entry pass (Join serial seat name key) false)) ≡ false → kept_with any_rules room (kept_of h) (change.Join seat name key) ≡ None
  unfolding reply
  join_refused h pass serial seat name key keys is fits e =
      reseated_refused any_rules room answer.Joined refl keys (serials any_rules room h) (standing any_rules room h) (λ roster. join roster seat name key) fits
      (subst (λ (n : ℕ). is_accepted (reply_by (λ (m : Match GameKind AnyG). answer.Joined) (reseated_match (named_match (standing any_rules room h) n) (λ roster. join roster seat name key))) ≡ false) is e)

  pub made_join : (h : Entries) (pass serial seat : ℕ) (name key : List ℕ) (book : Held GameKind AnyG) (keys after : List (Option (List ℕ))) (r : Replayed) → serial ≡ serials any_rules room h → Fits keys (serials any_rules room h) (standing any_rules room h) → after ≡ slice_set keys seat (Some key)
      → Calls room h pass (Join serial seat name key) book r → Does room h (change.Join seat name key) book after r
  made_join h pass serial seat name key book keys after r made fits is so = does_call h pass (Join serial seat name key) (change.Join seat name key) book keys after r refl fits (λ _. is) (join_refused h pass serial seat name key keys made fits) so

  rename_refused : (h : Entries) (pass serial seat : ℕ) (key name : List ℕ) (keys : List (Option (List ℕ))) → serial ≡ serials any_rules room h → Fits keys (serials any_rules room h) (standing any_rules room h)
      → is_accepted (reply any_rules room h (entry pass (Rename serial seat key name) false)) ≡ false → kept_with any_rules room (kept_of h) (change.Rename seat key name) ≡ None
  unfolding reply
  rename_refused h pass serial seat key name keys is fits e =
      reseated_refused any_rules room answer.Renamed refl keys (serials any_rules room h) (standing any_rules room h) (λ roster. rename roster seat key name) fits
      (subst (λ (n : ℕ). is_accepted (reply_by (λ (m : Match GameKind AnyG). answer.Renamed) (reseated_match (named_match (standing any_rules room h) n) (λ roster. rename roster seat key name))) ≡ false) is e)

  pub made_rename : (h : Entries) (pass serial seat : ℕ) (key name : List ℕ) (book : Held GameKind AnyG) (keys after : List (Option (List ℕ))) (r : Replayed) → serial ≡ serials any_rules room h → Fits keys (serials any_rules room h) (standing any_rules room h) → after ≡ keys
      → Calls room h pass (Rename serial seat key name) book r → Does room h (change.Rename seat key name) book after r
  made_rename h pass serial seat key name book keys after r made fits is so = does_call h pass (Rename serial seat key name) (change.Rename seat key name) book keys after r refl fits (λ _. is) (rename_refused h pass serial seat key name keys made fits) so

  leave_refused : (h : Entries) (pass serial seat : ℕ) (key : List ℕ) (keys : List (Option (List ℕ))) → serial ≡ serials any_rules room h → Fits keys (serials any_rules room h) (standing any_rules room h)
      → is_accepted (reply any_rules room h (entry pass (Leave serial seat key) false)) ≡ false → kept_with any_rules room (kept_of h) (change.Leave seat key) ≡ None
  unfolding reply
  leave_refused h pass serial seat key keys is fits e =
      left_refused any_rules room answer.Left refl keys (serials any_rules room h) (standing any_rules room h) (λ roster. leave roster seat key) fits
      (subst (λ (n : ℕ). is_accepted (reply_by (λ (m : Match GameKind AnyG). answer.Left) (reseated_match (named_match (standing any_rules room h) n) (λ roster. leave roster seat key))) ≡ false) is e)

  pub made_leave : (h : Entries) (pass serial seat : ℕ) (key : List ℕ) (book : Held GameKind AnyG) (keys after : List (Option (List ℕ))) (r : Replayed) → serial ≡ serials any_rules room h → Fits keys (serials any_rules room h) (standing any_rules room h) → after ≡ slice_set keys seat None
      → Calls room h pass (Leave serial seat key) book r → Does room h (change.Leave seat key) book after r
  made_leave h pass serial seat key book keys after r made fits is so = does_call h pass (Leave serial seat key) (change.Leave seat key) book keys after r refl fits (λ _. is) (leave_refused h pass serial seat key keys made fits) so

  clear_refused : (h : Entries) (pass serial : ℕ) (keys : List (Option (List ℕ))) → serial ≡ serials any_rules room h → Fits keys (serials any_rules room h) (standing any_rules room h)
      → is_accepted (reply any_rules room h (entry pass (Clear serial) false)) ≡ false → kept_with any_rules room (kept_of h) change.Clear ≡ None
  unfolding reply
  clear_refused h pass serial keys is fits e =
      cleared_refused any_rules room keys (serials any_rules room h) (standing any_rules room h) fits
      (subst (λ (n : ℕ). is_accepted (reply_by (λ (m : Match GameKind AnyG). answer.Cleared) (named_match (standing any_rules room h) n)) ≡ false) is e)

  pub made_clear : (h : Entries) (pass serial : ℕ) (book : Held GameKind AnyG) (keys after : List (Option (List ℕ))) (r : Replayed) → serial ≡ serials any_rules room h → Fits keys (serials any_rules room h) (standing any_rules room h) → after ≡ keys
      → Calls room h pass (Clear serial) book r → Does room h change.Clear book after r
  made_clear h pass serial book keys after r made fits is so = does_call h pass (Clear serial) change.Clear book keys after r refl fits (λ _. is) (clear_refused h pass serial keys made fits) so

  -- ---- a record

  follows_by : (o : Option (List (Change GameKind))) (cs : List (Change GameKind)) (b : Bool) → o ≡ Some cs → is_some (kept any_rules room cs) ≡ b → option_map_or (λ changes. is_some (kept any_rules room changes)) o false ≡ b
  follows_by o cs b e k = ap (λ o. option_map_or (λ changes. is_some (kept any_rules room changes)) o false) e ∙ k

  told_more : (h : Entries) (p : List ℕ) (c : Change GameKind) → change_read p ≡ Some c → changes_read (room_records room h) ≡ Some (changes_of any_rules room h) → changes_read (room_records room h ++ p ∷ []) ≡ Some (changes_of any_rules room h ++ c ∷ [])
  told_more h p c e told = read_more (room_records room h) p c e ∙ ap (option_map (λ cs. cs ++ c ∷ [])) told

  records_more : (h after : Entries) (p : List ℕ) (c : Change GameKind) → change_read p ≡ Some c → changes_of any_rules room after ≡ changes_of any_rules room h ++ c ∷ [] → room_records room after ≡ room_records room h ++ p ∷ []
  records_more h after p c e added =
      ap texts added ∙ map-append (payload any_rules) (changes_of any_rules room h) (c ∷ [])
      ∙ ap (λ (t : List ℕ). room_records room h ++ t ∷ []) (text_is p c e)

  pub not_read : (h : Entries) (p : List ℕ) → change_read p ≡ None → may_follow room (room_records room h) p ≡ false
  not_read h p e = ap (λ o. option_map_or (λ changes. is_some (kept any_rules room changes)) o false) (read_none (room_records room h) p e)

  pub is_refused : (h : Entries) (keys : List (Option (List ℕ))) (p : List ℕ) (c : Change GameKind) → change_read p ≡ Some c → HasCome room keys h → kept any_rules room (changes_of any_rules room h ++ c ∷ []) ≡ None → may_follow room (room_records room h) p ≡ false
  is_refused h keys p c e come none = follows_by _ _ false (told_more h p c e come.told) (ap (λ (k : Option (Kept GameKind AnyG)). is_some k) none)

  pub is_made : {O : Type 0} (stands_for has_come : O → Entries → Type 0) (thing : O) (h : Entries) (keys : List (Option (List ℕ))) (p : List ℕ) (c : Change GameKind) → change_read p ≡ Some c → HasCome room keys h
      → (after : Entries) → stands_for thing after → has_come thing after → changes_of any_rules room after ≡ changes_of any_rules room h ++ c ∷ [] → HasMade stands_for has_come (room_records room) (may_follow room) h p thing
  is_made stands_for has_come thing h keys p c e come after stands comes added = record {
    after = after;
    stands = stands;
    came = comes;
    adds = records_more h after p c e added;
    follows = follows_by _ _ true (told_more h p c e come.told) (ap (λ (l : List (Change GameKind)). is_some (kept any_rules room l)) (sym added) ∙ ap (λ (k : Option (Kept GameKind AnyG)). is_some k) (makes any_rules room after));
  }

  pub come_after : (h after : Entries) (keys keys_now : List (Option (List ℕ))) (p : List ℕ) (c : Change GameKind) → change_read p ≡ Some c → HasCome room keys h → changes_of any_rules room after ≡ changes_of any_rules room h ++ c ∷ []
      → Fits keys_now (serials any_rules room after) (standing any_rules room after) → HasCome room keys_now after
  come_after h after keys keys_now p c e come added fits = record {
    told = ap changes_read (records_more h after p c e added) ∙ told_more h p c e come.told ∙ ap (λ (l : List (Change GameKind)). Some l) (sym added);
    fits = fits;
  }

  pub replays_by : (h : Entries) (p : List ℕ) (c : Change GameKind) (keys : List (Option (List ℕ))) (thing : RoomBook) → room ≤ 63 → thing.room ≡ room → thing.book.room ≡ thing.room → change_read p ≡ Some c → HasCome room keys h
      → (r : Replayed) → Does room h c thing.book thing.keys.items r → Replay (λ b l. StandsIn b.room b.book l) (λ b l. HasCome b.room b.keys.items l) (room_records room) (may_follow room) h p thing r
  replays_by h p c keys thing few room_is same e come replayed.Done d =
      is_made (λ b l. StandsIn b.room b.book l) (λ b l. HasCome b.room b.keys.items l) thing h keys p c e come d.after (record { few = subst (λ (n : ℕ). n ≤ 63) (sym room_is) few; same = same; stands = d.stands })
      (subst (λ (n : ℕ). HasCome n thing.keys.items d.after) (sym room_is) (come_after h d.after keys thing.keys.items p c e come d.adds d.fits)) d.adds
  replays_by h p c keys thing few room_is same e come replayed.Refused none = is_refused h keys p c e come none
  replays_by h p c keys thing few room_is same e come replayed.NoMemory d = tt
