-- What each line makes of a workload, by what it makes of its world.
use Rattle.std.proofs.Common.{◌≡◌, ◌≤◌, ◌+◌, ◌*◌, ◌++◌, ℕ, Bool, true, false, List, [], Option, Some, None, refl, sym, ap, ◌∙◌, arith}
use mir.Val.{bool_byte}
use Rattle.any_game.specs.AnyRules.{any_rules, named}
use Rattle.any_game.specs.GameKind.{GameKind}
use Rattle.any_game.specs.declared.any_g.AnyG.{AnyG}
use Rattle.client_world.specs.Counted.{HasActed, HasArrived, HasRead, HasTaken, OpensMatch, after}
use Rattle.client_world.specs.IsWorld.{HeldWorld, IsWorld}
use Rattle.game_sheet.specs.MatchName.{Name}
use Rattle.hall_history.specs.Opening.{after_open}
use Rattle.world_history.specs.Workload.{Place, Workload, goes, one_if, places_from, places_of, with_match}
use Rattle.world_history.specs.World.{Step, Acts, Arrives, Attaches, Drops, Leaves, Reads, Takes}
use Rattle.game_hall.specs.declared.answer.Answer.{Answer}
use Rattle.game_hall.specs.declared.answer.Answer.TheVariants.{Created}
use Rattle.session_hall.specs.Opens.{made_by}
use Rattle.session_driver.specs.declared.tally.Tally.{Tally}
use Rattle.wire_json.specs.declared.asked.Asked.{Asked}
use Rattle.wire_json.specs.declared.protocol.Protocol.{Protocol}
use Rattle.workload.specs.IsLoad.{HeldLoad, IsLoad, most_more}
use Rattle.workload.specs.declared.counts.Counts.{Counts}
use Rattle.workload.proofs.Numbers.{acts_alike, arrived_counted, attaches_alike, drops_alike, leaves_alike, open_alike, reads_alike, still_counted, taken_counted}

-- a truth as a number
pub one_bit : (b : Bool) → bool_byte b ≡ one_if b
one_bit true = refl
one_bit false = refl

-- a Load with another world and other counts
abbrev pub with_world : HeldLoad → HeldWorld → Counts → HeldLoad
with_world old world counts = record { world = world; places = old.places; tape = old.tape; counts = counts }

none_more : (n m : ℕ) → n ≡ m → n ≡ m + 0
none_more n m e = omega (arith, e)

more_by : (n m k k' l : ℕ) → n ≡ m + k → k ≡ k' → m ≡ l → n ≡ l + k'
more_by n m k k' l e f g = omega (arith, e, f, g)

-- a count that stands still
stays : (lines new old : ℕ) → new ≡ old → old ≤ lines * most_more → new ≤ (lines + 1) * most_more
stays lines new old e few = omega (arith, e, few)

module _ (tape words : ℕ → List ℕ) (lines : ℕ) (old : HeldLoad) (l : Workload GameKind AnyG) (is : IsLoad tape words lines old l) (world : HeldWorld) (counts : Counts) where
  abbrev pub Few : ℕ → Type 0
  Few count = count ≤ (lines + 1) * most_more

  abbrev Comes : Step GameKind → Type 0
  Comes step = IsLoad tape words (lines + 1) (with_world old world counts) (goes named any_rules tape step l)

  pub acted : (c : ℕ) (asked : Asked) (held : Bool) → HasActed tape l.world c asked held world
      → counts.accepted ≡ old.counts.accepted → counts.refused ≡ old.counts.refused → counts.bytes ≡ old.counts.bytes
      → counts.held ≡ old.counts.held + one_if held → counts.read ≡ old.counts.read → Few counts.held → Comes (Acts c asked)
  acted c asked held h accepted refused bytes more read few_held = record {
    world = h.stands;
    places = is.places;
    drawn = is.drawn;
    counted = still_counted counts l.world.hall.rooms _ (acts_alike tape l.world c asked)
        (record { accepted = accepted ∙ is.counted.accepted; refused = refused ∙ is.counted.refused; bytes = bytes ∙ is.counted.bytes });
    few = record { accepted = stays lines counts.accepted old.counts.accepted accepted is.few.accepted; refused = stays lines counts.refused old.counts.refused refused is.few.refused; held = few_held; read = stays lines counts.read old.counts.read read is.few.read; bytes = stays lines counts.bytes old.counts.bytes bytes is.few.bytes };
    held = more_by counts.held old.counts.held (one_if held) _ l.held more (ap one_if h.is) is.held;
    read = none_more counts.read l.read (read ∙ is.read);
  }

  pub arrived : (c : ℕ) (tally : Tally) → HasArrived tape l.world c tally world
      → counts.accepted ≡ old.counts.accepted + tally.accepted → counts.refused ≡ old.counts.refused + tally.refused → counts.bytes ≡ old.counts.bytes
      → counts.held ≡ old.counts.held → counts.read ≡ old.counts.read → Few counts.accepted → Few counts.refused → Comes (Arrives c)
  arrived c tally h accepted refused bytes held read few_accepted few_refused = record {
    world = h.stands;
    places = is.places;
    drawn = is.drawn;
    counted = arrived_counted tape l.world c tally old.counts counts h.tallies accepted refused bytes is.counted;
    few = record { accepted = few_accepted; refused = few_refused; held = stays lines counts.held old.counts.held held is.few.held; read = stays lines counts.read old.counts.read read is.few.read; bytes = stays lines counts.bytes old.counts.bytes bytes is.few.bytes };
    held = none_more counts.held l.held (held ∙ is.held);
    read = none_more counts.read l.read (read ∙ is.read);
  }

  pub taken : (c count : ℕ) → HasTaken tape l.world c count world
      → counts.accepted ≡ old.counts.accepted → counts.refused ≡ old.counts.refused → counts.bytes ≡ old.counts.bytes + count
      → counts.held ≡ old.counts.held → counts.read ≡ old.counts.read → Few counts.bytes → Comes (Takes c)
  taken c count h accepted refused bytes held read few_bytes = record {
    world = h.stands;
    places = is.places;
    drawn = is.drawn;
    counted = taken_counted tape l.world c count old.counts counts h.is accepted refused bytes is.counted;
    few = record { accepted = stays lines counts.accepted old.counts.accepted accepted is.few.accepted; refused = stays lines counts.refused old.counts.refused refused is.few.refused; held = stays lines counts.held old.counts.held held is.few.held; read = stays lines counts.read old.counts.read read is.few.read; bytes = few_bytes };
    held = none_more counts.held l.held (held ∙ is.held);
    read = none_more counts.read l.read (read ∙ is.read);
  }

  pub was_read : (c : ℕ) (one : Bool) → HasRead tape l.world c one world
      → counts.accepted ≡ old.counts.accepted → counts.refused ≡ old.counts.refused → counts.bytes ≡ old.counts.bytes
      → counts.held ≡ old.counts.held → counts.read ≡ old.counts.read + one_if one → Few counts.read → Comes (Reads c)
  was_read c one h accepted refused bytes held more few_read = record {
    world = h.stands;
    places = is.places;
    drawn = is.drawn;
    counted = still_counted counts l.world.hall.rooms _ (reads_alike tape l.world c)
        (record { accepted = accepted ∙ is.counted.accepted; refused = refused ∙ is.counted.refused; bytes = bytes ∙ is.counted.bytes });
    few = record { accepted = stays lines counts.accepted old.counts.accepted accepted is.few.accepted; refused = stays lines counts.refused old.counts.refused refused is.few.refused; held = stays lines counts.held old.counts.held held is.few.held; read = few_read; bytes = stays lines counts.bytes old.counts.bytes bytes is.few.bytes };
    held = none_more counts.held l.held (held ∙ is.held);
    read = more_by counts.read old.counts.read (one_if one) _ l.read more (ap one_if h.is) is.read;
  }

module _ (tape words : ℕ → List ℕ) (lines : ℕ) (old : HeldLoad) (l : Workload GameKind AnyG) (is : IsLoad tape words lines old l) (world : HeldWorld) where
  -- a line that counts nothing
  abbrev comes_to : Step GameKind → Type 0
  comes_to step = IsLoad tape words lines (with_world old world old.counts) (goes named any_rules tape step l)

  pub dropped : (c : ℕ) → IsWorld tape world (after tape l.world (Drops c)) → comes_to (Drops c)
  dropped c stands = record {
    world = stands;
    places = is.places;
    drawn = is.drawn;
    counted = still_counted old.counts l.world.hall.rooms _ (drops_alike tape l.world c) is.counted;
    few = is.few;
    held = none_more old.counts.held l.held is.held;
    read = none_more old.counts.read l.read is.read;
  }

  pub attached : (c : ℕ) (game : GameKind) (name : Name) (seat : Option ℕ) (protocol : Protocol) → IsWorld tape world (after tape l.world (Attaches c game name seat protocol))
      → comes_to (Attaches c game name seat protocol)
  attached c game name seat protocol stands = record {
    world = stands;
    places = is.places;
    drawn = is.drawn;
    counted = still_counted old.counts l.world.hall.rooms _ (attaches_alike tape l.world c game name seat protocol) is.counted;
    few = is.few;
    held = none_more old.counts.held l.held is.held;
    read = none_more old.counts.read l.read is.read;
  }

  pub left : (name : Name) (seat : ℕ) → IsWorld tape world (after tape l.world (Leaves name seat)) → comes_to (Leaves name seat)
  left name seat stands = record {
    world = stands;
    places = is.places;
    drawn = is.drawn;
    counted = still_counted old.counts l.world.hall.rooms _ (leaves_alike tape l.world 0 name seat) is.counted;
    few = is.few;
    held = none_more old.counts.held l.held is.held;
    read = none_more old.counts.read l.read is.read;
  }

  -- ---- a match is opened

  pub opened : (game : List ℕ) (seats : ℕ) (made : Option Name) (places : List (Place GameKind)) → OpensMatch tape l.world game seats world made
      → places ≡ old.places ++ places_of (named game) (after_open named any_rules tape l.world.hall game seats).1 seats
      → IsLoad tape words lines (record { world = world; places = places; tape = old.tape; counts = old.counts })
      (with_match named any_rules tape l (named game) seats (after_open named any_rules tape l.world.hall game seats))
  opened game seats made places h e = record {
    world = h.stands;
    places = e ∙ ap (λ p. p ++ places_of (named game) (after_open named any_rules tape l.world.hall game seats).1 seats) is.places;
    drawn = is.drawn;
    counted = still_counted old.counts l.world.hall.rooms _ (open_alike tape l.world.hall game seats) is.counted;
    few = is.few;
    held = is.held;
    read = is.read;
  }

-- the seats of a match that was made
pub seats_made : (game : GameKind) (name : Name) (said : Option Answer) (seats : ℕ) → Some name ≡ made_by said → places_of (Some game) said seats ≡ places_from game name 0 seats
seats_made game name (Some (Created other)) seats e = ap (λ n. places_from game n 0 seats) (same name other e)
  where
    same : (name other : Name) → Some name ≡ Some other → other ≡ name
    same name other e = cc
seats_made game name said seats e = absurd (cc)

-- and of none
pub none_made : (found : Option GameKind) (said : Option Answer) (seats : ℕ) → None ≡ made_by said → places_of found said seats ≡ []
none_made None said seats e = refl
none_made (Some game) (Some (Created other)) seats e = absurd (cc)
none_made (Some game) said seats e = refl

-- the seats that an open adds
pub seats_opened : (found : Option GameKind) (game : GameKind) (name : Name) (said : Option Answer) (seats : ℕ) → Some game ≡ found → Some name ≡ made_by said
    → places_of found said seats ≡ places_from game name 0 seats
seats_opened found game name said seats is made = ap (λ f. places_of f said seats) (sym is) ∙ seats_made game name said seats made

pub unknown_game : (found : Option GameKind) (said : Option Answer) (seats : ℕ) → None ≡ found → places_of found said seats ≡ []
unknown_game None said seats e = refl
unknown_game (Some game) said seats e = absurd (cc)

-- what so many lines may have come to, more of them may
pub fewer : (tape words : ℕ → List ℕ) (lines all : ℕ) (load : HeldLoad) (l : Workload GameKind AnyG) → lines ≤ all → IsLoad tape words lines load l → IsLoad tape words all load l
fewer tape words lines all load l e is = record {
  world = is.world;
  places = is.places;
  drawn = is.drawn;
  counted = is.counted;
  few = record {
    accepted = by load.counts.accepted is.few.accepted;
    refused = by load.counts.refused is.few.refused;
    held = by load.counts.held is.few.held;
    read = by load.counts.read is.few.read;
    bytes = by load.counts.bytes is.few.bytes;
  };
  held = is.held;
  read = is.read;
}
  where
    by : (count : ℕ) → count ≤ lines * most_more → count ≤ all * most_more
    by count few = omega (arith, e, few)
