-- What a call makes of a link's peer where the handshake was made, and the numbers of closes.
use Rattle.std.specs.Prelude.{◌≡◌, ◌≤◌, ◌⊎◌, ◌==◌, ℕ, Bool, true, false, List, [], length, Option, None, Some}
use Rattle.board_links.specs.declared.link.Came.{Came}
use Rattle.board_links.specs.declared.link.Came.TheVariants as came
use Rattle.board_links.specs.declared.link.Out.{Out}
use Rattle.board_links.specs.declared.link.Out.TheVariants as out
use Rattle.board_links.specs.declared.link.SessionEnd.{SessionEnd}
use Rattle.board_links.specs.declared.link.SessionEnd.TheVariants as end
use Rattle.game_sheet.specs.declared.act.Bye.TheVariants as bye
use Rattle.page_files.specs.declared.page.Pages.{Pages}
use Rattle.tungstenite.specs.Socket.{IsFresh, Socket}
use Rattle.websocket.specs.declared.protocol.config.Role.TheVariants.{Server}
use Rattle.ws_link.specs.Frames.{HandsOn, Hears, IsLimited, Says, held_limit}
use Rattle.ws_link.specs.Pages.{Asks, ReadsOn, answer_by, pages_of}
use Rattle.ws_link.specs.declared.greeting.Greeting.{Greeting}
use Rattle.ws_link.specs.declared.ws_link.Peer.{Peer}
use Rattle.ws_link.specs.declared.ws_link.Peer.TheVariants as peer
use Rattle.ws_link.specs.declared.ws_link.Rest.{Rest}
use Rattle.ws_link.specs.declared.ws_link.Rest.TheVariants as rest

-- a receive left nothing that its stream may have
abbrev pub is_done : Rest → Bool
is_done rest.Nothing = true
is_done rest.Due = false
is_done rest.Told = false

module _ {T : Type 0} where
  -- before its handshake, on this stream, with these files of the page, if any; nothing came yet
  abbrev pub waits_for : T → Option Pages → Peer T → Type 0
  waits_for stream pages (peer.Greets greeting) = (greeting.stream ≡ stream) × (pages_of greeting ≡ pages) × (greeting.head.items ≡ [])
  waits_for stream pages other = ⊥

  abbrev pub IsOpen : Peer T → Type 0
  IsOpen (peer.Open socket) = Unit {0}
  IsOpen other = ⊥

  -- past its handshake, a server's socket on this stream that has read and sent nothing
  abbrev pub IsRaw : T → Peer T → Type 0
  IsRaw stream (peer.Open socket) = IsFresh socket stream Server
  IsRaw stream other = ⊥

  -- nothing waits to be sent
  abbrev pub is_clear : Peer T → Bool
  is_clear (peer.Open socket) = length socket.output == 0
  is_clear (peer.Answers socket) = length socket.output == 0
  is_clear other = true

  -- how many bytes came of what is no line yet
  abbrev pub held_of : Peer T → ℕ
  held_of (peer.Greets greeting) = length greeting.head.items
  held_of (peer.Open socket) = length socket.input
  held_of (peer.Answers socket) = length socket.input
  held_of peer.Gone = 0

  -- past its handshake no message is taken of more bytes than a line has, and no more are held of one whose last frame is still to come
  abbrev pub TakesLines : Peer T → Type 0
  TakesLines (peer.Open socket) = IsLimited socket.conn
  TakesLines other = Unit {0}

  -- where a call leaves a peer that may be heard again
  abbrev pub StaysLimited : Peer T → Peer T → Came → Type 0
  StaysLimited old new (came.Line bytes) = TakesLines old → TakesLines new
  StaysLimited old new came.Quiet = TakesLines old → TakesLines new
  StaysLimited old new answer = Unit {0}

  -- a receive lets no more bytes be held than the limit
  pub record IsBounded (old new : Peer T) (answer : Came) : Type 0 where
    pub held : held_of old ≤ held_limit → held_of new ≤ held_limit
    pub limited : StaysLimited old new answer

  -- a peer that was open is open still, and this holds of its socket before and after
  abbrev pub StaysOpen : (Socket T → Socket T → Type 0) → Peer T → Peer T → Type 0
  StaysOpen holds (peer.Open old) (peer.Open new) = holds old new
  StaysOpen holds (peer.Open old) other = ⊥
  StaysOpen holds old new = Unit {0}

  -- the same of a peer that answers with a file of the page
  abbrev pub KeepsOn : (Socket T → Socket T → Type 0) → Peer T → Peer T → Type 0
  KeepsOn holds (peer.Answers old) (peer.Answers new) = holds old new
  KeepsOn holds (peer.Answers old) other = ⊥
  KeepsOn holds old new = StaysOpen holds old new

  -- What a call made of a peer before its handshake: its head may still come, and what came is held; or it is answered with what the page's files say
  -- to its head. Of a peer that is answered nothing is heard any more.
  abbrev pub PageAnswered : (T → Option (List ℕ)) → Peer T → Peer T → Type 0
  PageAnswered remaining (peer.Greets old) (peer.Greets new) = ReadsOn remaining old new
  PageAnswered remaining (peer.Greets old) (peer.Answers socket) = Asks remaining old socket.stream (Some socket.output)
  PageAnswered remaining (peer.Answers socket) new = new ≡ peer.Answers socket
  PageAnswered remaining old new = Unit {0}

  -- on the stream of a peer whose head has come: it is answered with what the files say to the head, or past its handshake where they say nothing
  abbrev pub IsMet : Greeting T → List ℕ → Peer T → Type 0
  IsMet greeting head (peer.Answers socket) = (socket.stream ≡ greeting.stream) × (answer_by (pages_of greeting) head ≡ Some socket.output)
  IsMet greeting head (peer.Open socket) = (socket.stream ≡ greeting.stream) × (answer_by (pages_of greeting) head ≡ None)
  IsMet greeting head other = ⊥

  -- the same, and the handshake is made only where the files have no answer to the head
  abbrev pub HeadMet : (T → Option (List ℕ)) → Peer T → Peer T → Type 0
  HeadMet remaining (peer.Greets old) (peer.Open socket) = Asks remaining old socket.stream None
  HeadMet remaining old new = PageAnswered remaining old new

  -- what a receive made of a peer past its handshake
  abbrev pub FramesHeard : (T → Option (List ℕ)) → Peer T → Peer T → Came → Type 0
  FramesHeard remaining old new answer = StaysOpen (λ s t. Hears remaining s t answer) old new

  -- what a send made of one: where it was done, these lines' frames wait behind what waited
  abbrev pub SaidBy : List ℕ → Out → Socket T → Socket T → Type 0
  SaidBy bytes out.Done s t = s.conn.role ≡ Server → Says s t bytes
  SaidBy bytes answer s t = Unit {0}

  abbrev pub FramesSaid : Peer T → Peer T → List ℕ → Out → Type 0
  FramesSaid old new bytes answer = StaysOpen (SaidBy bytes answer) old new

  -- what handing on made of one: what waited goes to the stream from its first byte on, unless the stream failed
  abbrev pub HandedBy : (T → Option (List ℕ)) → Bool → Socket T → Socket T → Type 0
  HandedBy contents true s t = HandsOn contents s t
  HandedBy contents false s t = t.output ≡ []

  abbrev pub FramesHanded : (T → Option (List ℕ)) → Peer T → Peer T → Bool → Type 0
  FramesHanded contents old new is_well = KeepsOn (HandedBy contents is_well) old new

  -- what a flush made of one: it was handed on so, or the stream failed, nothing waits any more, and the next receive fails
  abbrev pub FramesFlushed : (T → Option (List ℕ)) → Peer T → Peer T → Bool → Type 0
  FramesFlushed contents old new broken = KeepsOn (λ s t. HandsOn contents s t ⊎ ((broken ≡ true) × (t.output ≡ []))) old new

-- the code of the close that ends a session
abbrev pub close_number : SessionEnd → ℕ
close_number end.Ended = 1000
close_number (end.Bye bye.Left) = 1000
close_number (end.Bye bye.Lagging) = 1008
close_number end.TooLong = 1009
close_number end.LinkFault = 1011
close_number end.NoMemory = 1011
