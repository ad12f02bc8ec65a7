-- What a session was sent tells the first messages of what it was shown, each in its line, and at most a bye line after them.
use Rattle.std.proofs.Common.{◌≡◌, ◌⊎◌, inl, inr, ◌||◌, ℕ, Bool, true, false, if◌then◌else◌, List, [], ◌∷◌, ◌++◌, Ok, Err, refl, sym, ap, ◌∙◌, subst, append_assoc, append-nil}
use Rattle.std.specs.Prelude.{Result}
use Rattle.game_sheet.specs.declared.act.Bye.{Bye}
use Rattle.room_history.specs.Course.{IsFirstPart}
use Rattle.wire_json.specs.declared.server.ServerMsg.{ServerMsg}
use Rattle.wire_json.specs.declared.server.ServerMsg.TheVariants.{Bye as Farewell}
use Rattle.wire_json.specs.ServerText.{text}
use Rattle.room_history.specs.News.{TellsSight, is_answer, messages_of, news}
use Rattle.room_history.specs.Piece.{Piece, Line, Mark, End, State, Open, Ended, Closed, all_lines, message_lines, message_lines_to_mark, state_after_take, state_of}
use Rattle.room_history.specs.Session.{Session, stream_of}
use Rattle.room_history.proofs.News.{tells_sight}
use Rattle.wire_json.specs.Refusals.{Refusal}
use Rattle.wire_json.specs.ServerReading.{server_read}
use Rattle.wire_json.specs.declared.server.ServerMsg.TheVariants as to_client
use Rattle.client_predict.specs.Following.{has_bye, has_sync, is_bye, is_sync, is_told, told_lines}
use Rattle.convergence.specs.Lines.{AllLines, ReadsBack}
use Rattle.convergence.proofs.Stories.{AllRead, lines_of}

-- ---- lines that are told

pub told_append : (xs ys : List (List ℕ)) → told_lines (xs ++ ys) ≡ told_lines xs ++ told_lines ys
told_append [] ys = refl
told_append (x ∷ xs) ys = by (is_told (server_read x)) (told_append xs ys)
  where
    by : (b : Bool) → told_lines (xs ++ ys) ≡ told_lines xs ++ told_lines ys → (if b then x ∷ told_lines (xs ++ ys) else told_lines (xs ++ ys)) ≡ (if b then x ∷ told_lines xs else told_lines xs) ++ told_lines ys
    by true e = ap (λ l. x ∷ l) e
    by false e = e

pub part_told : (part whole : List (List ℕ)) → IsFirstPart part whole → IsFirstPart (told_lines part) (told_lines whole)
part_told part whole f = (told_lines f.0, ap told_lines f.1 ∙ told_append part f.0)

one_told : (m : ServerMsg) → ReadsBack m → told_lines (text m ∷ []) ≡ (if is_answer m then [] else text m ∷ [])
one_told (to_client.Games names) back = rw back refl
one_told (to_client.Matches rows) back = rw back refl
one_told (to_client.Match row) back = rw back refl
one_told (to_client.Created name) back = rw back refl
one_told (to_client.Joined key name seat) back = rw back refl
one_told (to_client.Renamed name seat) back = rw back refl
one_told (to_client.Left name seat) back = rw back refl
one_told (to_client.Asked name seat) back = rw back refl
one_told (to_client.Sync name seat protocol snapshot) back = rw back refl
one_told (to_client.Update ctx entry g number) back = rw back refl
one_told (to_client.Change ctx entry gone put number) back = rw back refl
one_told (to_client.Ok number ticket) back = rw back refl
one_told (to_client.No number reason ticket) back = rw back refl
one_told (to_client.Again ticket) back = rw back refl
one_told (to_client.Refused refusal) back = rw back refl
one_told (to_client.Bye why) back = rw back refl

lines_if : (b : Bool) (m : ServerMsg) (ms : List ServerMsg) → lines_of (if b then ms else m ∷ ms) ≡ lines_of ms ++ (if b then [] else text m ∷ [])
lines_if true m ms = sym (append-nil (lines_of ms))
lines_if false m ms = refl

pub stream_told : (ps : List Piece) → AllLines ReadsBack ps → told_lines (message_lines ps) ≡ lines_of (news ps)
stream_told [] h = refl
stream_told (Line m ∷ ps) h =
    told_append (message_lines ps) (text m ∷ []) ∙ ap (λ l. l ++ told_lines (text m ∷ [])) (stream_told ps h.1)
    ∙ ap (λ l. lines_of (news ps) ++ l) (one_told m h.0) ∙ sym (lines_if (is_answer m) m (news ps))
stream_told (Mark ∷ ps) h = stream_told ps h
stream_told (End why ∷ ps) h = stream_told ps h

pub news_read : (ps : List Piece) → AllLines ReadsBack ps → AllRead (news ps)
news_read [] h = tt
news_read (Line m ∷ ps) h = by (is_answer m) (news_read ps h.1)
  where
    by : (b : Bool) → AllRead (news ps) → AllRead (if b then news ps else m ∷ news ps)
    by true later = later
    by false later = (h.0, later)
news_read (Mark ∷ ps) h = news_read ps h
news_read (End why ∷ ps) h = news_read ps h

-- ---- up to the last mark

pub record ToMark (ps : List Piece) : Type 0 where
  pub newer : List Piece
  pub older : List Piece
  pub is : ps ≡ newer ++ older
  pub lines : message_lines_to_mark ps ≡ message_lines older

one_more : (p : Piece) (ps : List Piece) → message_lines_to_mark (p ∷ ps) ≡ message_lines_to_mark ps → ToMark ps → ToMark (p ∷ ps)
one_more p ps e t = record { newer = p ∷ t.newer; older = t.older; is = ap (λ l. p ∷ l) t.is; lines = e ∙ t.lines }

pub to_mark : (ps : List Piece) → ToMark ps
to_mark [] = record { newer = []; older = []; is = refl; lines = refl }
to_mark (Mark ∷ ps) = record { newer = Mark ∷ []; older = ps; is = refl; lines = refl }
to_mark (Line m ∷ ps) = one_more (Line m) ps refl (to_mark ps)
to_mark (End why ∷ ps) = one_more (End why) ps refl (to_mark ps)

pub older_lines : (Holds : ServerMsg → Type 0) (newer older : List Piece) → AllLines Holds (newer ++ older) → AllLines Holds older
older_lines Holds [] older h = h
older_lines Holds (Line m ∷ newer) older h = older_lines Holds newer older h.1
older_lines Holds (Mark ∷ newer) older h = older_lines Holds newer older h
older_lines Holds (End why ∷ newer) older h = older_lines Holds newer older h

news_append : (newer older : List Piece) → news (newer ++ older) ≡ news newer ++ news older
news_append [] older = refl
news_append (Line m ∷ newer) older = by (is_answer m) (news_append newer older)
  where
    by : (b : Bool) → news (newer ++ older) ≡ news newer ++ news older → (if b then news (newer ++ older) else m ∷ news (newer ++ older)) ≡ (if b then news newer else m ∷ news newer) ++ news older
    by true e = e
    by false e = ap (λ l. m ∷ l) e
news_append (Mark ∷ newer) older = news_append newer older
news_append (End why ∷ newer) older = news_append newer older

abbrev IsOlder : Session → List ServerMsg → Type 0
IsOlder s older = (more : List ServerMsg) × (messages_of s ≡ more ++ older)

stream_older : (s : Session) → IsOlder s (news (stream_of s))
stream_older s = by (state_of (stream_of s)) (tells_sight s)
  where
    by : (st : State) → TellsSight st s → IsOlder s (news (stream_of s))
    by Open h = ([], sym h)
    by (Ended why) h = h
    by Closed h = h

pub mark_older : (s : Session) (newer older : List Piece) → stream_of s ≡ newer ++ older → IsOlder s (news older)
mark_older s newer older e =
    let o : IsOlder s (news (stream_of s)) = stream_older s in
    (o.0 ++ news newer, o.1 ∙ ap (λ ps. o.0 ++ news ps) e ∙ ap (λ l. o.0 ++ l) (news_append newer older) ∙ sym (append_assoc o.0 (news newer) (news older)))

-- ---- an open stream

taken_open : (st : State) → state_after_take st ≡ Open → st ≡ Open
taken_open Open e = refl
taken_open (Ended why) e = cc
taken_open Closed e = cc

ended_open : (why : Bye) → Ended why ≡ Open → ⊥
ended_open why e = cc

pub open_lines : (ps : List Piece) → state_of ps ≡ Open → all_lines ps ≡ message_lines ps
open_lines [] e = refl
open_lines (Line m ∷ ps) e = ap (λ l. l ++ text m ∷ []) (open_lines ps e)
open_lines (Mark ∷ ps) e = open_lines ps (taken_open (state_of ps) e)
open_lines (End why ∷ ps) e = absurd (ended_open why e)

pub open_news : (s : Session) → state_of (stream_of s) ≡ Open → news (stream_of s) ≡ messages_of s
open_news s e = subst (λ st. TellsSight st s) e (tells_sight s)

-- ---- first parts of lines

none_left : (xs ys : List (List ℕ)) → [] ≡ xs ++ ys → xs ≡ []
none_left [] ys e = refl
none_left (x ∷ xs) ys e = cc

same_head : (x y : List ℕ) (xs ys : List (List ℕ)) → x ∷ xs ≡ y ∷ ys → x ≡ y
same_head x y xs ys e = cc

same_tail : (x y : List ℕ) (xs ys : List (List ℕ)) → x ∷ xs ≡ y ∷ ys → xs ≡ ys
same_tail x y xs ys e = cc

-- a first part of a list is the whole list, or a first part of it without its last
pub last_in : (xs : List (List ℕ)) (x : List ℕ) (part rest : List (List ℕ)) → xs ++ x ∷ [] ≡ part ++ rest → (part ≡ xs ++ x ∷ []) ⊎ IsFirstPart part xs
last_in xs x [] rest e = inr (xs, refl)
last_in [] x (p ∷ part) rest e =
    inl (ap (λ l. p ∷ l) (none_left part rest (same_tail x p [] (part ++ rest) e)) ∙ ap (λ y. y ∷ []) (sym (same_head x p [] (part ++ rest) e)))
last_in (y ∷ xs) x (p ∷ part) rest e = by (last_in xs x part rest (same_tail y p (xs ++ x ∷ []) (part ++ rest) e))
  where
    first : y ≡ p
    first = same_head y p (xs ++ x ∷ []) (part ++ rest) e

    by : (part ≡ xs ++ x ∷ []) ⊎ IsFirstPart part xs → (p ∷ part ≡ y ∷ xs ++ x ∷ []) ⊎ IsFirstPart (p ∷ part) (y ∷ xs)
    by (inl whole) = inl (ap (λ l. p ∷ l) whole ∙ ap (λ z. z ∷ xs ++ x ∷ []) (sym first))
    by (inr f) = inr (f.0, ap (λ l. y ∷ l) f.1 ∙ ap (λ z. z ∷ part ++ f.0) first)

pub record Parted (ms : List ServerMsg) (part : List (List ℕ)) : Type 0 where
  pub newer : List ServerMsg
  pub older : List ServerMsg
  pub is : ms ≡ newer ++ older
  pub lines : part ≡ lines_of older

pub part_lines : (ms : List ServerMsg) (part : List (List ℕ)) → IsFirstPart part (lines_of ms) → Parted ms part
part_lines [] part f = record { newer = []; older = []; is = refl; lines = none_left part f.0 f.1 }
part_lines (m ∷ ms) part f = by (last_in (lines_of ms) (text m) part f.0 f.1) (λ first. part_lines ms part first)
  where
    by : (part ≡ lines_of ms ++ text m ∷ []) ⊎ IsFirstPart part (lines_of ms) → (IsFirstPart part (lines_of ms) → Parted ms part) → Parted (m ∷ ms) part
    by (inl whole) later = record { newer = []; older = m ∷ ms; is = refl; lines = whole }
    by (inr first) later = record { newer = m ∷ (later first).newer; older = (later first).older; is = ap (λ l. m ∷ l) (later first).is; lines = (later first).lines }

-- ---- what is passed over is no sync and no bye

sync_by : (b : Bool) (x : List ℕ) (xs : List (List ℕ)) → is_told (server_read x) ≡ b → (is_told (server_read x) ≡ false → is_sync (server_read x) ≡ false) → has_sync xs ≡ has_sync (told_lines xs)
    → has_sync (x ∷ xs) ≡ has_sync (if b then x ∷ told_lines xs else told_lines xs)
sync_by true x xs e aside later = ap (λ t. is_sync (server_read x) || t) later
sync_by false x xs e aside later = rw (aside e) later

bye_by : (b : Bool) (x : List ℕ) (xs : List (List ℕ)) → is_told (server_read x) ≡ b → (is_told (server_read x) ≡ false → is_bye (server_read x) ≡ false) → has_bye xs ≡ has_bye (told_lines xs)
    → has_bye (x ∷ xs) ≡ has_bye (if b then x ∷ told_lines xs else told_lines xs)
bye_by true x xs e aside later = ap (λ t. is_bye (server_read x) || t) later
bye_by false x xs e aside later = rw (aside e) later

no_true : true ≡ false → ⊥
no_true e = cc

untold_sync : (r : Result ServerMsg Refusal) → is_told r ≡ false → is_sync r ≡ false
untold_sync (Ok (to_client.Sync name seat protocol snapshot)) e = absurd (no_true e)
untold_sync (Ok (to_client.Games names)) e = refl
untold_sync (Ok (to_client.Matches rows)) e = refl
untold_sync (Ok (to_client.Match row)) e = refl
untold_sync (Ok (to_client.Created name)) e = refl
untold_sync (Ok (to_client.Joined key name seat)) e = refl
untold_sync (Ok (to_client.Renamed name seat)) e = refl
untold_sync (Ok (to_client.Left name seat)) e = refl
untold_sync (Ok (to_client.Asked name seat)) e = refl
untold_sync (Ok (to_client.Update ctx entry g number)) e = refl
untold_sync (Ok (to_client.Change ctx entry gone put number)) e = refl
untold_sync (Ok (to_client.Ok number ticket)) e = refl
untold_sync (Ok (to_client.No number reason ticket)) e = refl
untold_sync (Ok (to_client.Again ticket)) e = refl
untold_sync (Ok (to_client.Refused refusal)) e = refl
untold_sync (Ok (to_client.Bye why)) e = refl
untold_sync (Err fault) e = refl

untold_bye : (r : Result ServerMsg Refusal) → is_told r ≡ false → is_bye r ≡ false
untold_bye (Ok (to_client.Bye why)) e = absurd (no_true e)
untold_bye (Ok (to_client.Games names)) e = refl
untold_bye (Ok (to_client.Matches rows)) e = refl
untold_bye (Ok (to_client.Match row)) e = refl
untold_bye (Ok (to_client.Created name)) e = refl
untold_bye (Ok (to_client.Joined key name seat)) e = refl
untold_bye (Ok (to_client.Renamed name seat)) e = refl
untold_bye (Ok (to_client.Left name seat)) e = refl
untold_bye (Ok (to_client.Asked name seat)) e = refl
untold_bye (Ok (to_client.Sync name seat protocol snapshot)) e = refl
untold_bye (Ok (to_client.Update ctx entry g number)) e = refl
untold_bye (Ok (to_client.Change ctx entry gone put number)) e = refl
untold_bye (Ok (to_client.Ok number ticket)) e = refl
untold_bye (Ok (to_client.No number reason ticket)) e = refl
untold_bye (Ok (to_client.Again ticket)) e = refl
untold_bye (Ok (to_client.Refused refusal)) e = refl
untold_bye (Err fault) e = refl

pub sync_told : (xs : List (List ℕ)) → has_sync xs ≡ has_sync (told_lines xs)
sync_told [] = refl
sync_told (x ∷ xs) = sync_by (is_told (server_read x)) x xs refl (untold_sync (server_read x)) (sync_told xs)

pub bye_told : (xs : List (List ℕ)) → has_bye xs ≡ has_bye (told_lines xs)
bye_told [] = refl
bye_told (x ∷ xs) = bye_by (is_told (server_read x)) x xs refl (untold_bye (server_read x)) (bye_told xs)

bye_here : (b : Bool) → (b || true) ≡ true
bye_here true = refl
bye_here false = refl

pub last_bye : (xs : List (List ℕ)) (why : Bye) → ReadsBack (Farewell why) → has_bye (xs ++ text (Farewell why) ∷ []) ≡ true
last_bye [] why back = rw back refl
last_bye (x ∷ xs) why back = ap (λ t. is_bye (server_read x) || t) (last_bye xs why back) ∙ bye_here (is_bye (server_read x))

pub one_bye : (why : Bye) → ReadsBack (Farewell why) → has_sync (text (Farewell why) ∷ []) ≡ false
one_bye why back = rw back refl
