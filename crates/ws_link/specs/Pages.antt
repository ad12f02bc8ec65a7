-- What a peer is answered whose head asks for a file of the page.
use Rattle.std.specs.Prelude.{◌≡◌, ◌+◌, ◌++◌, ℕ, List, codes, take, Option, None, Some, MatchResult, Result, option_map}
use Rattle.std.specs.Arc.{arc_value}
use Rattle.std.specs.Io.KnownBytes.{Consumes}
use Rattle.memchr.specs.Find.{FindsNeedle}
use Rattle.page_files.specs.Pages.{answer_to}
use Rattle.page_files.specs.declared.page.Pages.{Pages}
use Rattle.ws_link.specs.declared.greeting.Greeting.{Greeting}
use Rattle.ws_link.specs.declared.greeting.Halt.{Halt}
use Rattle.ws_link.specs.declared.greeting.Halt.TheVariants as halt

-- the bytes at which a head ends: the end of a line, and an empty line
abbrev pub head_end : List ℕ
head_end = codes "\r\n\r\n"

-- so many bytes are the head that these bytes begin with, up to the first empty line and with it
abbrev pub IsHead : List ℕ → ℕ → Type 0
IsHead bytes count = (at : ℕ) × FindsNeedle bytes head_end 0 (Some at) × (count ≡ at + 4)

-- what the files of the page, where there are some, answer to a head
abbrev pub answer_by : Option Pages → List ℕ → Option (List ℕ)
answer_by None head = None
answer_by (Some pages) head = answer_to pages.pages.items head

module _ {T : Type 0} where
  -- the files that a head may ask for
  abbrev pub pages_of : Greeting T → Option Pages
  pages_of greeting = option_map arc_value greeting.pages

  -- some bytes were taken from the stream, and are held behind those that came before
  pub record ReadsOn (remaining : T → Option (List ℕ)) (old new : Greeting T) : Type 0 where
    pub got : List ℕ
    pub told : Consumes (remaining old.stream) (remaining new.stream) got
    pub held : new.head.items ≡ old.head.items ++ got
    pub same_pages : pages_of new ≡ pages_of old

  -- so it is where the rest of a head may still come
  abbrev pub MayCome : (T → Option (List ℕ)) → Greeting T → Greeting T → Halt → Type 0
  MayCome remaining old new halt.Wait = ReadsOn remaining old new
  MayCome remaining old new other = Unit {0}

  -- and where nothing went wrong
  abbrev pub ReadsFor : {A : Type 0} → (T → Option (List ℕ)) → Greeting T → Greeting T → Result A Halt → Type 0
  ReadsFor remaining old new result = MatchResult result (λ told. ReadsOn remaining old new) (MayCome remaining old new)

  -- The head has come whole: some bytes were taken from the stream, and this is what the files answer to the head that stands at the front of all that
  -- came.
  pub record Asks (remaining : T → Option (List ℕ)) (greeting : Greeting T) (stream : T) (answer : Option (List ℕ)) : Type 0 where
    pub got : List ℕ
    pub told : Consumes (remaining greeting.stream) (remaining stream) got
    pub count : ℕ
    pub head : IsHead (greeting.head.items ++ got) count
    pub answers : answer_by (pages_of greeting) (take count (greeting.head.items ++ got)) ≡ answer
