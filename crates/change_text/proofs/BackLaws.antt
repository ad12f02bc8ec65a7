-- The text of a change reads back as the change.
use Rattle.std.proofs.Common.{◌≡◌, ◌≤◌, ℕ, List, length, lit≤, if◌then◌else◌, Bool, true, false, Some, None, bytes_eq, IsUtf8, refl, arith}
use Rattle.std.proofs.lemmas.Slice.Eq.{bytes_eq-Decides}
use Rattle.hex.specs.Hex.{encode_lower, IsBytes}
use Rattle.hex.proofs.HexLemmas.{decode_sized-encode_lower}
use Rattle.serde_json.specs.Data.{object, depth}
use Rattle.serde_json.specs.Read.{max_depth}
use Rattle.json_tree.specs.Lines.{IsTextOf}
use Rattle.json_tree.specs.Writable.{MembersAreWritable}
use Rattle.json_tree.proofs.LineLaws.{text_again}
use Rattle.json_tree.proofs.WritableRows.{ascii, fixed}
use Rattle.json_back.proofs.Texts.{written_utf8, whole}
use Rattle.json_back.proofs.Written.{written_reads}
use Rattle.sheet_json.proofs.SeatLaws.{natural_again}
use Rattle.any_game.specs.AnyRules.{any_rules}
use Rattle.any_game.specs.GameKind.{GameKind, TicTacToe, Countdown, Pig, HighHand, BlindBid, Captions}
use Rattle.wire_json.specs.KeyText.{lower_hex}
use Rattle.wire_json.proofs.ActLaws.{asked_again}
use Rattle.wire_json.proofs.KeyTexts.{key_again}
use Rattle.wire_json.proofs.Texts.{key_utf8}
use Rattle.room_changes.specs.declared.change.Change.{Change}
use Rattle.room_changes.specs.declared.change.Change.TheVariants as change
use Rattle.change_text.specs.Payload.{change_members, payload}
use Rattle.change_text.specs.Reading.{IsReadable, change_in, change_read}
use Rattle.wire_json.proofs.ClientWriting.{asked_shallow, asked_writable}

name_utf8 : (game : GameKind) → IsUtf8 (any_rules game).sheet.name
name_utf8 TicTacToe = ascii _ refl
name_utf8 Countdown = ascii _ refl
name_utf8 Pig = ascii _ refl
name_utf8 (HighHand deck) = ascii _ refl
name_utf8 BlindBid = ascii _ refl
name_utf8 Captions = ascii _ refl

writable : (c : Change GameKind) → IsReadable c → MembersAreWritable (change_members any_rules c)
writable (change.Create game seats seed) h = let few = h.1 in fixed (change_members any_rules (change.Create game seats seed)) refl (name_utf8 game, (ascii _ refl, (omega arith, (key_utf8 seed, tt))))
writable (change.Join seat name key) h = let few = h.0 in fixed (change_members any_rules (change.Join seat name key)) refl (key_utf8 key, (ascii _ refl, (h.1, (omega arith, tt))))
writable (change.Rename seat key name) h = let few = h.0 in fixed (change_members any_rules (change.Rename seat key name)) refl (key_utf8 key, (ascii _ refl, (h.1, (omega arith, tt))))
writable (change.Leave seat key) h = let few = h.0 in fixed (change_members any_rules (change.Leave seat key)) refl (key_utf8 key, (ascii _ refl, (omega arith, tt)))
writable change.Clear h = fixed (change_members any_rules change.Clear) refl (ascii _ refl, tt)
writable (change.Act seat asked) h = let few = h.0 in fixed (change_members any_rules (change.Act seat asked)) refl (asked_writable asked h.1 h.2, (ascii _ refl, (omega arith, tt)))

shallow : (c : Change GameKind) → depth (object (change_members any_rules c)) ≤ max_depth
shallow (change.Create game seats seed) = lit≤ tt
shallow (change.Join seat name key) = lit≤ tt
shallow (change.Rename seat key name) = lit≤ tt
shallow (change.Leave seat key) = lit≤ tt
shallow change.Clear = lit≤ tt
shallow (change.Act seat asked) = let few = asked_shallow asked in omega arith

seed_again : (seed : List ℕ) → length seed ≡ 32 → IsBytes seed → lower_hex 32 (encode_lower seed) ≡ Some seed
unfolding lower_hex
seed_again seed n b = rw (decode_sized-encode_lower seed 32 n b, (bytes_eq-Decides (encode_lower seed) (encode_lower seed)).1 refl) refl

change_again : (c : Change GameKind) → IsReadable c → change_in (object (change_members any_rules c)) ≡ Some c
unfolding change_in
change_again (change.Create game seats seed) h = rw (natural_again 255 seats h.1, seed_again seed h.2 h.3, h.0) refl
change_again (change.Join seat name key) h = rw (natural_again 255 seat h.0, key_again key h.2) refl
change_again (change.Rename seat key name) h = rw (natural_again 255 seat h.0, key_again key h.2) refl
change_again (change.Leave seat key) h = rw (natural_again 255 seat h.0, key_again key h.1) refl
change_again change.Clear h = refl
change_again (change.Act seat asked) h = rw (natural_again 255 seat h.0, asked_again asked h.1) refl

same : (b : Bool) (c : Change GameKind) → b ≡ true → (if b then Some c else None) ≡ Some c
same true c e = refl
same false c e = absurd (cc)

pub read_back : (c : Change GameKind) → IsReadable c → change_read (payload any_rules c) ≡ Some c
unfolding change_read
read_back c h =
    let w = writable c h in
    let is : IsTextOf (payload any_rules c) (change_members any_rules c) = record {
      utf8 = written_utf8 (object (change_members any_rules c)) w;
      is = written_reads (object (change_members any_rules c)) w (shallow c);
      no_float = whole (object (change_members any_rules c)) w;
    } in
    rw (text_again (payload any_rules c) (change_members any_rules c) is, change_again c h) (same (bytes_eq (payload any_rules c) (payload any_rules c)) c ((bytes_eq-Decides (payload any_rules c) (payload any_rules c)).1 refl))
