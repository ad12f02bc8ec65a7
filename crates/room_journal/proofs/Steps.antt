-- What one more change makes of the keys of a match, and when it isn't accepted.
use Rattle.std.proofs.Common.{◌≡◌, ◌≤◌, ℕ, zero, suc, ◌+◌, ◌==◌, Bool, true, false, if◌then◌else◌, List, [], ◌∷◌, map, replicate, slice_get, slice_set, Option, Some, None, option_map, Result, Ok, Err, bytes_eq, refl, sym, ap, ◌∙◌, subst, arith}
use Rattle.std.proofs.lemmas.Bool.Decides.{nat_tests}
use Rattle.game_sheet.specs.declared.act.Act.{Act}
use Rattle.game_sheet.specs.declared.refusal.GameRule.{GameRule}
use Rattle.game_trait.specs.Rules.{Rules}
use Rattle.phase_flow.specs.Action.{begin}
use Rattle.phase_flow.specs.Reached.{Reached}
use Rattle.seat_roster.specs.Name.{is_name}
use Rattle.seat_roster.specs.Player.{Player, Seats, player_at}
use Rattle.seat_roster.specs.Roster.{if_free, if_key_of, if_name, is_empty, join, rename, leave}
use Rattle.seat_roster.specs.declared.refusal.RosterNo.{RosterNo}
use Rattle.seat_roster.specs.declared.refusal.RosterNo.TheVariants.{BadName, Unauthorized}
use Rattle.wire_json.specs.Resolve.{act_of}
use Rattle.wire_json.specs.declared.asked.Asked.{Asked}
use Rattle.wire_json.specs.declared.reason.Reason.{Reason}
use Rattle.room_history.specs.Match.{Match}
use Rattle.room_history.specs.Reply.{created_match, last_serial, looked_match, named_match, new_match, reply_by, reseated_match, seats_fit}
use Rattle.room_history.proofs.Names.{with_roster}
use Rattle.room_history.specs.Verdict.{first_reason, match_accepting, with_act}
use Rattle.room_history.specs.declared.reply.RoomReply.{RoomReply}
use Rattle.room_history.specs.declared.reply.RoomReply.TheVariants as answer
use Rattle.room_changes.specs.ChangesOf.{is_accepted}
use Rattle.room_changes.proofs.Names.{with_created, with_left, with_none, with_reseated}
use Rattle.room_changes.specs.Kept.{Kept, acted_by, claim, kept_with, submission}
use Rattle.room_changes.specs.declared.change.Change.{Change}
use Rattle.room_changes.specs.declared.change.Change.TheVariants as change
use Rattle.room_journal.specs.Coming.{Fits, FitsMatch, key_at}
use Rattle.std.specs.Option.{option_map_or}

some_is : {A : Type 0} (a b : A) → Some a ≡ Some b → a ≡ b
some_is a b e = cc

none_some : {A : Type 0} {P : Type 0} (a : A) → None ≡ Some a → P
none_some a e = absurd (cc)

pub true_false : {P : Type 0} → true ≡ false → P
true_false e = absurd (cc)

-- ---- keys

map_set : (l : Seats) (i : ℕ) (a : Option Player) → map key_at (slice_set l i a) ≡ slice_set (map key_at l) i (key_at a)
map_set [] i a = refl
map_set (x ∷ l) zero a = refl
map_set (x ∷ l) (suc i) a = ap (λ (t : List (Option (List ℕ))). key_at x ∷ t) (map_set l i a)

same_set : (l : Seats) (i : ℕ) (p q : Player) → player_at l i ≡ Some p → q.key ≡ p.key → map key_at (slice_set l i (Some q)) ≡ map key_at l
same_set [] i p q e k = refl
same_set (x ∷ l) zero p q e k = ap (λ (t : Option (List ℕ)). t ∷ map key_at l) (ap (λ (z : List ℕ). Some z) k ∙ sym (ap key_at e))
same_set (x ∷ l) (suc i) p q e k = ap (λ (t : List (Option (List ℕ))). key_at x ∷ t) (same_set l i p q e k)

free_keys : (n : ℕ) → map key_at (replicate n None) ≡ replicate n None
free_keys zero = refl
free_keys (suc n) = ap (λ (t : List (Option (List ℕ))). None ∷ t) (free_keys n)

-- what a call on a roster makes of its keys
abbrev Rekeys : Seats → List (Option (List ℕ)) → Result Seats RosterNo → Type 0
Rekeys before keys (Ok after) = map key_at after ≡ keys
Rekeys before keys (Err why) = Unit {0}

name_keys : (b : Bool) (before after : Seats) (keys : List (Option (List ℕ))) → map key_at after ≡ keys → Rekeys before keys (if b then Ok after else Err BadName)
name_keys true before after keys e = e
name_keys false before after keys e = tt

join_keys : (seats : Seats) (seat : ℕ) (name key : List ℕ) → Rekeys seats (slice_set (map key_at seats) seat (Some key)) (join seats seat name key)
join_keys seats seat name key = by (slice_get seats seat)
  where
    by : (o : Option (Option Player)) → Rekeys seats (slice_set (map key_at seats) seat (Some key)) (if_free o (if_name name (slice_set seats seat (Some (record { name = name; key = key })))))
    by None = tt
    by (Some (Some player)) = tt
    by (Some None) = name_keys (is_name name) seats (slice_set seats seat (Some (record { name = name; key = key }))) (slice_set (map key_at seats) seat (Some key)) (map_set seats seat (Some (record { name = name; key = key })))

keyed_keys : (b : Bool) (before : Seats) (keys : List (Option (List ℕ))) (x : Result Seats RosterNo) → Rekeys before keys x → Rekeys before keys (if b then x else Err Unauthorized)
keyed_keys true before keys x e = e
keyed_keys false before keys x e = tt

rename_keys : (seats : Seats) (seat : ℕ) (key name : List ℕ) → Rekeys seats (map key_at seats) (rename seats seat key name)
rename_keys seats seat key name = by (player_at seats seat) refl
  where
    by : (o : Option Player) → player_at seats seat ≡ o → Rekeys seats (map key_at seats) (if_key_of o key (λ player. if_name name (slice_set seats seat (Some (record player { name = name })))))
    by None e = tt
    by (Some player) e = keyed_keys (bytes_eq player.key key) seats (map key_at seats) (if_name name (slice_set seats seat (Some (record player { name = name }))))
        (name_keys (is_name name) seats (slice_set seats seat (Some (record player { name = name }))) (map key_at seats) (same_set seats seat player (record player { name = name }) e refl))

leave_keys : (seats : Seats) (seat : ℕ) (key : List ℕ) → Rekeys seats (slice_set (map key_at seats) seat None) (leave seats seat key)
leave_keys seats seat key = by (player_at seats seat)
  where
    by : (o : Option Player) → Rekeys seats (slice_set (map key_at seats) seat None) (if_key_of o key (λ player. Ok (slice_set seats seat None)))
    by None = tt
    by (Some player) = keyed_keys (bytes_eq player.key key) seats (slice_set (map key_at seats) seat None) (Ok (slice_set seats seat None)) (map_set seats seat None)

-- ---- steps

abbrev pub keys_after : {X : Type 0} → List (Option (List ℕ)) → Change X → List (Option (List ℕ))
keys_after keys (change.Create game seats seed) = replicate seats None
keys_after keys (change.Join seat name key) = slice_set keys seat (Some key)
keys_after keys (change.Rename seat key name) = keys
keys_after keys (change.Leave seat key) = slice_set keys seat None
keys_after keys change.Clear = keys
keys_after keys (change.Act seat asked) = keys

module _ {X G : Type 0} (rules : X → Rules G) (room : ℕ) where
  abbrev FitsNext : List (Option (List ℕ)) → Kept X G → Type 0
  FitsNext keys k = Fits keys k.serials k.standing

  begun : (serial : ℕ) (game : X) (seats : ℕ) (seed : List ℕ) (first : Result (Reached G) GameRule) (next : Kept X G) → 1 ≤ serial → with_created (new_match rules serial game seats seed first) ≡ Some next → FitsNext (replicate seats None) next
  begun serial game seats seed (Ok first) next some e = subst (FitsNext (replicate seats None)) (some_is _ next e) (record { latest = refl; some = some; keys_are = sym (free_keys seats) })
  begun serial game seats seed (Err why) next some e = none_some next e

  fit : (b : Bool) (x : Result (Match X G) RoomReply) (keys : List (Option (List ℕ))) (next : Kept X G) → (with_created x ≡ Some next → FitsNext keys next) → with_created (if b then x else Err answer.BadSeats) ≡ Some next → FitsNext keys next
  fit true x keys next f e = f e
  fit false x keys next f e = none_some next e

  free : (b : Bool) (x : Result (Match X G) RoomReply) (keys : List (Option (List ℕ))) (next : Kept X G) → (with_created x ≡ Some next → FitsNext keys next) → with_created (if b then Err answer.Busy else x) ≡ Some next → FitsNext keys next
  free true x keys next f e = none_some next e
  free false x keys next f e = f e

  created_fits : (serials : ℕ) (st : Option (Match X G)) (game : X) (seats : ℕ) (seed : List ℕ) (next : Kept X G) → with_created (created_match rules serials st game seats seed) ≡ Some next → FitsNext (replicate seats None) next
  created_fits serials (Some m) game seats seed next e = none_some next e
  created_fits serials None game seats seed next e =
      free (serials == last_serial) (if seats_fit (rules game).sheet seats then new_match rules (serials + 1) game seats seed (begin (rules game) seats seed) else Err answer.BadSeats) (replicate seats None) next
      (fit (seats_fit (rules game).sheet seats) (new_match rules (serials + 1) game seats seed (begin (rules game) seats seed)) (replicate seats None) next
      (begun (serials + 1) game seats seed (begin (rules game) seats seed) next (omega arith))) e

  reseated_fits : (keys after : List (Option (List ℕ))) (serials : ℕ) (st : Option (Match X G)) (f : Seats → Result Seats RosterNo) (next : Kept X G) → ((before : Seats) → keys ≡ map key_at before → Rekeys before after (f before))
      → with_reseated serials (reseated_match (looked_match st None) f) ≡ Some next → Fits keys serials st → FitsNext after next
  reseated_fits keys after serials None f next g e fits = none_some next e
  reseated_fits keys after serials (Some m) f next g e fits = by (f m.roster) (g m.roster fits.keys_are) e
    where
      by : (x : Result Seats RosterNo) → Rekeys m.roster after x → with_reseated serials (with_roster m x) ≡ Some next → FitsNext after next
      by (Ok seats) is e = subst (FitsNext after) (some_is _ next e) (record { latest = fits.latest; some = fits.some; keys_are = sym is })
      by (Err why) is e = none_some next e

  left_fits : (keys after : List (Option (List ℕ))) (serials : ℕ) (st : Option (Match X G)) (f : Seats → Result Seats RosterNo) (next : Kept X G) → ((before : Seats) → keys ≡ map key_at before → Rekeys before after (f before))
      → with_left serials (reseated_match (looked_match st None) f) ≡ Some next → Fits keys serials st → FitsNext after next
  left_fits keys after serials None f next g e fits = none_some next e
  left_fits keys after serials (Some m) f next g e fits = by (f m.roster) (g m.roster fits.keys_are) e
    where
      or_gone : (b : Bool) (n : Match X G) → FitsMatch after serials n → Fits after serials (if b then None else Some n)
      or_gone true n so = tt
      or_gone false n so = so

      by : (x : Result Seats RosterNo) → Rekeys m.roster after x → with_left serials (with_roster m x) ≡ Some next → FitsNext after next
      by (Ok seats) is e = subst (FitsNext after) (some_is _ next e) (or_gone (is_empty seats) (record m { roster = seats }) (record { latest = fits.latest; some = fits.some; keys_are = sym is }))
      by (Err why) is e = none_some next e

  cleared_fits : (keys : List (Option (List ℕ))) (serials : ℕ) (x : Result (Match X G) RoomReply) (next : Kept X G) → with_none serials x ≡ Some next → FitsNext keys next
  cleared_fits keys serials (Ok m) next e = subst (FitsNext keys) (some_is _ next e) tt
  cleared_fits keys serials (Err why) next e = none_some next e

  abbrev goes : ℕ → Match X G → Kept X G
  goes serials m = record { serials = serials; standing = Some m }

  act_fits : (keys : List (Option (List ℕ))) (serials : ℕ) (m : Match X G) (seat : ℕ) (act : Option Act) → FitsMatch keys serials m → FitsMatch keys serials (with_act rules m (Some seat) act)
  act_fits keys serials m seat None fits = fits
  act_fits keys serials m seat (Some act) fits = record { latest = fits.latest; some = fits.some; keys_are = fits.keys_are }

  taken_fits : (keys : List (Option (List ℕ))) (serials : ℕ) (why : Option Reason) (m : Match X G) (next : Kept X G) → option_map (goes serials) (option_map_or (λ reason. None) why (Some m)) ≡ Some next → FitsMatch keys serials m → FitsNext keys next
  taken_fits keys serials None m next e fits = subst (FitsNext keys) (some_is _ next e) fits
  taken_fits keys serials (Some why) m next e fits = none_some next e

  acted_fits : (keys : List (Option (List ℕ))) (serials : ℕ) (m : Match X G) (seat : ℕ) (asked : Asked) (o : Option Player) (next : Kept X G) → option_map (goes serials) (acted_by rules room m seat asked o) ≡ Some next → FitsMatch keys serials m → FitsNext keys next
  acted_fits keys serials m seat asked None next e fits = none_some next e
  acted_fits keys serials m seat asked (Some player) next e fits =
      taken_fits keys serials (first_reason rules room m (claim seat player) (submission room m player asked)) (match_accepting rules m (claim seat player) (submission room m player asked)) next e
      (act_fits keys serials m seat (act_of (rules m.game).sheet asked) fits)

  act_kept_fits : (keys : List (Option (List ℕ))) (k : Kept X G) (seat : ℕ) (asked : Asked) (next : Kept X G) (st : Option (Match X G)) → k.standing ≡ st → kept_with rules room (record { serials = k.serials; standing = st }) (change.Act seat asked) ≡ Some next → Fits keys k.serials st → FitsNext keys next
  act_kept_fits keys k seat asked next None is e fits = none_some next e
  act_kept_fits keys k seat asked next (Some m) is e fits = acted_fits keys k.serials m seat asked (player_at m.roster seat) next e fits

  -- what a change makes of the keys
  pub fits_step : (keys : List (Option (List ℕ))) (k next : Kept X G) (c : Change X) → kept_with rules room k c ≡ Some next → Fits keys k.serials k.standing → Fits (keys_after keys c) next.serials next.standing
  fits_step keys k next (change.Create game seats seed) e fits = created_fits k.serials k.standing game seats seed next e
  fits_step keys k next (change.Join seat name key) e fits = reseated_fits keys (slice_set keys seat (Some key)) k.serials k.standing (λ roster. join roster seat name key) next
      (λ before is. subst (λ (l : List (Option (List ℕ))). Rekeys before (slice_set l seat (Some key)) (join before seat name key)) (sym is) (join_keys before seat name key)) e fits
  fits_step keys k next (change.Rename seat key name) e fits = reseated_fits keys keys k.serials k.standing (λ roster. rename roster seat key name) next
      (λ before is. subst (λ (l : List (Option (List ℕ))). Rekeys before l (rename before seat key name)) (sym is) (rename_keys before seat key name)) e fits
  fits_step keys k next (change.Leave seat key) e fits = left_fits keys (slice_set keys seat None) k.serials k.standing (λ roster. leave roster seat key) next
      (λ before is. subst (λ (l : List (Option (List ℕ))). Rekeys before (slice_set l seat None) (leave before seat key)) (sym is) (leave_keys before seat key)) e fits
  fits_step keys k next change.Clear e fits = cleared_fits keys k.serials (looked_match k.standing None) next e
  fits_step keys k next (change.Act seat asked) e fits = act_kept_fits keys k seat asked next k.standing refl e fits

  -- ---- refusals

  pub created_refused : (x : Result (Match X G) RoomReply) → is_accepted (reply_by (λ (m : Match X G). answer.Created m.serial) x) ≡ false → with_created x ≡ None
  created_refused (Ok m) e = true_false e
  created_refused (Err why) e = refl

  named_so : (keys : List (Option (List ℕ))) (serials : ℕ) (m : Match X G) → FitsMatch keys serials m → named_match (Some m) serials ≡ Ok m
  named_so keys serials m fits = by (m.serial == serials) (grind (arith, nat_tests, fits.latest))
    where
      by : (b : Bool) → b ≡ true → (if b then Ok m else Err answer.NoMatch) ≡ Ok m
      by true e = refl
      by false e = true_false (sym e)

  abbrev Turned : RoomReply → (Result (Match X G) RoomReply → Option (Kept X G)) → Result (Match X G) RoomReply → Result (Match X G) RoomReply → Type 0
  Turned said with_it x y = is_accepted (reply_by (λ (m : Match X G). said) x) ≡ false → with_it y ≡ None

  reseated_turned : (said : RoomReply) → is_accepted said ≡ true → (serials : ℕ) (m : Match X G) (x : Result Seats RosterNo) → Turned said (with_reseated serials) (with_roster m x) (with_roster m x)
  reseated_turned said t serials m (Ok seats) e = true_false (sym t ∙ e)
  reseated_turned said t serials m (Err why) e = refl

  left_turned : (said : RoomReply) → is_accepted said ≡ true → (serials : ℕ) (m : Match X G) (x : Result Seats RosterNo) → Turned said (with_left serials) (with_roster m x) (with_roster m x)
  left_turned said t serials m (Ok seats) e = true_false (sym t ∙ e)
  left_turned said t serials m (Err why) e = refl

  pub reseated_refused : (said : RoomReply) → is_accepted said ≡ true → (keys : List (Option (List ℕ))) (serials : ℕ) (st : Option (Match X G)) (f : Seats → Result Seats RosterNo) → Fits keys serials st
      → Turned said (with_reseated serials) (reseated_match (named_match st serials) f) (reseated_match (looked_match st None) f)
  reseated_refused said t keys serials None f fits e = refl
  reseated_refused said t keys serials (Some m) f fits e =
      reseated_turned said t serials m (f m.roster) (subst (λ (x : Result (Match X G) RoomReply). is_accepted (reply_by (λ (n : Match X G). said) (reseated_match x f)) ≡ false) (named_so keys serials m fits) e)

  pub left_refused : (said : RoomReply) → is_accepted said ≡ true → (keys : List (Option (List ℕ))) (serials : ℕ) (st : Option (Match X G)) (f : Seats → Result Seats RosterNo) → Fits keys serials st
      → Turned said (with_left serials) (reseated_match (named_match st serials) f) (reseated_match (looked_match st None) f)
  left_refused said t keys serials None f fits e = refl
  left_refused said t keys serials (Some m) f fits e =
      left_turned said t serials m (f m.roster) (subst (λ (x : Result (Match X G) RoomReply). is_accepted (reply_by (λ (n : Match X G). said) (reseated_match x f)) ≡ false) (named_so keys serials m fits) e)

  pub cleared_refused : (keys : List (Option (List ℕ))) (serials : ℕ) (st : Option (Match X G)) → Fits keys serials st → Turned answer.Cleared (with_none serials) (named_match st serials) (looked_match st None)
  cleared_refused keys serials None fits e = refl
  cleared_refused keys serials (Some m) fits e = true_false (subst (λ (x : Result (Match X G) RoomReply). is_accepted (reply_by (λ (n : Match X G). answer.Cleared) x) ≡ false) (named_so keys serials m fits) e)
