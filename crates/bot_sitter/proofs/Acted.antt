-- What an act of the client is to the link that has the client.
use Rattle.std.proofs.Common.{◌≡◌, ℕ, Bool, false, List, Option, Some, ap, subst, ◌∙◌, IfOk}
use Rattle.std.specs.Prelude.{option_map, Result, Ok, Err}
use Rattle.client_predict.specs.Acting.{submitted, with_act}
use Rattle.client_predict.specs.Client.{Held}
use Rattle.game_trait.specs.Rules.{Rules}
use Rattle.wire_json.specs.ClientText.{client_text}
use Rattle.wire_json.specs.declared.asked.Asked.{Asked}
use Rattle.wire_json.specs.declared.client.ClientMsg.TheVariants as message
use Rattle.game_sheet.specs.Lines.{lines}
use Rattle.game_sheet.specs.MatchName.{Name}
use Rattle.bot_sitter.specs.Ears.{ActedBy, ActsBy, Ear}
use Rattle.bot_sitter.specs.Given.{GivesAct}
use Rattle.bot_sitter.specs.Sitting.{Sitting}
use Rattle.bot_sitter.specs.Told.{told_by}
use Rattle.bot_sitter.specs.declared.gave.Gave.{Gave}
use Rattle.bot_sitter.specs.declared.told.Told.{Told}

pub if_ok : {A E : Type 0} (P Q : A → Type 0) (r : Result A E) → ((x : A) → P x → Q x) → IfOk r P → IfOk r Q
if_ok P Q (Ok x) h p = h x p
if_ok P Q (Err e) h p = p

pub acted_as : {X G : Type 0} (rules : X → Rules G) (game : X) (told : Told) (inside : Option (Held X G)) (client new : Held X G) (asked : Asked) (line : List ℕ) (old : Ear X G)
    → record { game = game; told = told; client = option_map (λ (h : Held X G). h.client) inside } ≡ old → inside ≡ Some client → client.game ≡ game → client.key ≡ told.key
    → ActedBy (rules client.game) asked line client new → ActsBy (rules old.game) asked line old (record { game = game; told = told; client = Some new.client })
acted_as {X = X} {G = G} rules game told inside client new asked line old view is same key a =
    subst (λ (o : Ear X G). ActsBy (rules o.game) asked line o (record { game = game; told = told; client = Some new.client })) view
    (record {
      c = client.client;
      p = a.p;
      client_is = ap (option_map (λ (h : Held X G). h.client)) is;
      playing = a.playing;
      line_is = a.line_is ∙ ap (λ (g : X). client_text (message.Act (submitted (rules g) client.key a.p asked))) same ∙ ap (λ (k : Option (List ℕ)). client_text (message.Act (submitted (rules game) k a.p asked))) key;
      after = ap (λ (h : Held X G). record { game = game; told = told; client = Some h.client }) a.after
          ∙ ap (λ (g : X). record { game = game; told = told; client = Some (record { gone = client.client.gone; playing = Some (with_act (rules g) a.p asked) }) }) same;
    })

pub gives_as : {X G : Type 0} (rules : X → Rules G) (ear new : Ear X G) (name : Name) (seat : ℕ) (sent : List ℕ) (starved : Bool) (gave : Gave) (asked_out : Bool) (last : Option ℕ) (asked want : Asked) (line : List ℕ) (old : Sitting X G)
    → record { game = ear.game; name = name; seat = seat; sent = sent; starved = starved; client = ear.client; gave = gave; asked_out = asked_out; last = last } ≡ old
    → asked ≡ want → (starved ≡ false → ear.told ≡ told_by (lines sent)) → ActsBy (rules ear.game) asked line ear new
    → GivesAct (rules old.game) old.starved want line old (record { game = new.game; name = name; seat = seat; sent = sent; starved = starved; client = new.client; gave = gave; asked_out = asked_out; last = last })
gives_as {X = X} {G = G} rules ear new name seat sent starved gave asked_out last asked want line old view same told a =
    subst (λ (o : Sitting X G). GivesAct (rules o.game) o.starved want line o (record { game = new.game; name = name; seat = seat; sent = sent; starved = starved; client = new.client; gave = gave; asked_out = asked_out; last = last })) view
    (subst (λ (w : Asked). GivesAct (rules ear.game) starved w line (record { game = ear.game; name = name; seat = seat; sent = sent; starved = starved; client = ear.client; gave = gave; asked_out = asked_out; last = last })
    (record { game = new.game; name = name; seat = seat; sent = sent; starved = starved; client = new.client; gave = gave; asked_out = asked_out; last = last })) same
    (record {
      key = ear.told.key;
      key_is = λ here. ap (λ (t : Told). t.key) (told here);
      c = a.c;
      p = a.p;
      client = a.client_is;
      playing = a.playing;
      line_is = a.line_is;
      after = ap (λ (e : Ear X G). record { game = e.game; name = name; seat = seat; sent = sent; starved = starved; client = e.client; gave = gave; asked_out = asked_out; last = last }) a.after;
    }))
