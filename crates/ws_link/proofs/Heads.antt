-- The head of a peer, read part by part.
use Rattle.std.proofs.Common.{◌++◌, ◌∙◌, List, Option, ap, append_assoc, ℕ}
use Rattle.tungstenite.proofs.SocketLemmas.{consumes-chain}
use Rattle.ws_link.specs.Pages.{MayCome, ReadsOn}
use Rattle.ws_link.specs.declared.greeting.Greeting.{Greeting}
use Rattle.ws_link.specs.declared.greeting.Halt.{Halt}
use Rattle.ws_link.specs.declared.greeting.Halt.TheVariants as halt

module _ {T : Type 0} where
  held_on : (rem : T → Option (List ℕ)) (old mid new : Greeting T) → ReadsOn rem old mid → ReadsOn rem mid new → ReadsOn rem old new
  held_on rem old mid new h k =
      record {
        got = h.got ++ k.got;
        told = consumes-chain (rem old.stream) (rem mid.stream) (rem new.stream) h.got k.got h.told k.told;
        held = k.held ∙ ap (λ z. z ++ k.got) h.held ∙ append_assoc old.head.items h.got k.got;
        same_pages = k.same_pages ∙ h.same_pages;
      }

  -- a read that has to wait leaves the head as it was, but for what it brought
  pub still_waits : (rem : T → Option (List ℕ)) (old mid new : Greeting T) (why : Halt) → ReadsOn rem old mid → MayCome rem mid new why → MayCome rem old new why
  still_waits rem old mid new halt.Wait h k = held_on rem old mid new h k
  still_waits rem old mid new halt.Failed h k = tt
  still_waits rem old mid new halt.Answered h k = tt
  still_waits rem old mid new halt.NoMemory h k = tt
