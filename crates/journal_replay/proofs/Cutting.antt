-- The snapshot stands in a spectator's first line between two parts that don't depend on it.
use Rattle.std.proofs.Common.{◌≡◌, ℕ, List, [], ◌∷◌, ◌++◌, ◌+◌, ◌-◌, length, take, drop, true, None, codes, refl, ap, ◌∙◌, arith, append_assoc, length-append}
use Rattle.std.proofs.Math.Seq.{take-append_seam, drop-append_seam}
use Rattle.json.specs.Print.{escape_byte}
use Rattle.serde_json.specs.Data.{Data, null, string}
use Rattle.serde_json.specs.Written.{compact_text, members_text}
use Rattle.game_sheet.specs.MatchName.{Name}
use Rattle.wire_json.specs.MatchText.{match_text}
use Rattle.wire_json.specs.ServerText.{text as server_text}
use Rattle.wire_json.specs.declared.protocol.Protocol.TheVariants.{One}
use Rattle.wire_json.specs.declared.server.ServerMsg.TheVariants.{Sync}
use Rattle.wire_json.specs.ClientText.{of_type}

module _ (name : Name) where
  pub front : List ℕ
  front = 123 ∷ (compact_text (string (codes "match")) ++ 58 ∷ (compact_text (string (match_text name)) ++ 44 ∷ (compact_text (string (codes "seat")) ++ 58 ∷ (compact_text null ++ 44 ∷ (compact_text (string (codes "snapshot")) ++ 58 ∷ [])))))

  back : List ℕ
  back = members_text true (of_type (codes "sync")) ++ 10 ∷ []

  reassoc : (a b c d e s t n : List ℕ) → (123 ∷ (a ++ 58 ∷ (b ++ 44 ∷ (c ++ 58 ∷ (d ++ 44 ∷ (e ++ 58 ∷ (s ++ t))))))) ++ n ≡ (123 ∷ (a ++ 58 ∷ (b ++ 44 ∷ (c ++ 58 ∷ (d ++ 44 ∷ (e ++ 58 ∷ [])))))) ++ (s ++ (t ++ n))
  reassoc a b c d e s t n = simp (append_assoc) refl

  split : (s : Data) → server_text (Sync name None One s) ≡ front ++ (compact_text s ++ back)
  unfolding server_text front back
  split s = reassoc (compact_text (string (codes "match"))) (compact_text (string (match_text name))) (compact_text (string (codes "seat"))) (compact_text null) (compact_text (string (codes "snapshot"))) (compact_text s) (members_text true (of_type (codes "sync"))) (10 ∷ [])

  behind : length back ≡ 16
  unfolding back escape_byte
  behind = refl

  size : (s : Data) → length (server_text (Sync name None One s)) ≡ length front + (length (compact_text s) + 16)
  size s = ap length (split s) ∙ length-append front (compact_text s ++ back) ∙ ap (λ (n : ℕ). length front + n) (length-append (compact_text s) back ∙ ap (λ (n : ℕ). length (compact_text s) + n) behind)

  -- a line of null is as long as what stands before a snapshot, and twenty bytes
  pub blank_size : (blank : List ℕ) → blank ≡ server_text (Sync name None One null) → length blank ≡ length front + 20
  blank_size blank is = ap length is ∙ size null

  pub line_size : (line : List ℕ) (s : Data) → line ≡ server_text (Sync name None One s) → length line ≡ length front + (length (compact_text s) + 16)
  line_size line s is = ap length is ∙ size s

  pub cut : (line : List ℕ) (s : Data) (begin end : ℕ) → line ≡ server_text (Sync name None One s) → begin ≡ length front → end ≡ length front + length (compact_text s) → take (end - begin) (drop begin line) ≡ compact_text s
  cut line s begin end is at to =
      ap (λ (l : List ℕ). take (end - begin) (drop begin l)) (is ∙ split s)
      ∙ ap (λ (n : ℕ). take (end - begin) (drop n (front ++ (compact_text s ++ back)))) at
      ∙ ap (take (end - begin)) (drop-append_seam front (compact_text s ++ back))
      ∙ ap (λ (n : ℕ). take n (compact_text s ++ back)) (omega (arith, at, to))
      ∙ take-append_seam (compact_text s) back
