-- A link in memory, as its callers see it, and what its calls do.
use Rattle.std.specs.Prelude.{ℕ, ◌-◌, ◌≡◌, min, true, false, if◌then◌else◌, nat_le, List, [], ◌∷◌, ◌++◌, drop, Option, Some, None, Result, Ok, Err}
use Rattle.std.specs.Borrow.{Bor}
use Rattle.link_trait.specs.declared.datagram.Address.{Address}
use Rattle.link_trait.specs.declared.datagram.Arrived.{Arrived}
use Rattle.link_trait.specs.declared.datagram.Delivered.{Delivered}
use Rattle.link_trait.specs.declared.datagram.Posted.{Posted}
use Rattle.link_trait.specs.declared.falls.Falls.{Falls}
use Rattle.link_trait.specs.Calls.{counted}
use Rattle.link_trait.specs.Link.{Answers, Binding, Plan, send_falls}
use Rattle.link_trait.specs.Rooms.{Room, one_room_less}

pub record LinkValue : Type 0 where
  -- the datagrams that wait
  pub pending : List Delivered
  -- the datagrams that were sent, and not taken out yet
  pub sent : List Posted
  -- the room for further sends
  pub room : Room
  -- which coming calls are listed to fail
  pub falls : Falls
  -- which process is bound, with the addresses of all
  pub bound : Option Binding
  -- how many calls failed
  pub faults : ℕ

-- no call is listed to fail
abbrev pub no_falls : Falls
no_falls = record { bind = false; recv = false; send = None }

-- nothing waits, nothing was sent, there is no room, and no call is listed to fail
abbrev pub empty_link : LinkValue
empty_link = record { pending = []; sent = []; room = record { count = 0; bytes = 0 }; falls = no_falls; bound = None; faults = 0 }

-- ---- its plan

-- how many sends go out: as many as have room, but none from the listed one on
abbrev pub sends_left : Option ℕ → ℕ → ℕ
sends_left None room = room
sends_left (Some n) room = min room (n - 1)

abbrev pub plan_of : LinkValue → Plan
plan_of l = record { bind = l.falls.bind; recv = l.falls.recv; sends = sends_left l.falls.send l.room.count; bytes = l.room.bytes }

-- the listed send after one more: it stands one nearer, or has fallen
abbrev pub nearer : Option ℕ → Option ℕ
nearer None = None
nearer (Some n) = if nat_le n 1 then None else Some (n - 1)

-- ---- its calls

-- a bind fails exactly where it falls, and then it has fallen
abbrev pub Binds : {T E : Type 0} → LinkValue → Binding → Result T E → LinkValue → Type 0
Binds old b (Ok x) new = (old.falls.bind ≡ false) × (new ≡ record old { bound = Some b })
Binds old b (Err e) new =
    (old.falls.bind ≡ true) × (new ≡ record old { falls = record old.falls { bind = false }; faults = counted old.faults })

-- the link after a send, but for what was sent
abbrev pub after_send : LinkValue → LinkValue
after_send old = record old { falls = record old.falls { send = nearer old.falls.send } }

-- a send fails exactly where it is listed or wants room, and else the datagram is the last one that was sent
abbrev pub Sends : {T E : Type 0} → LinkValue → Posted → Result T E → LinkValue → Type 0
Sends old posted (Ok x) new =
    (send_falls posted.bytes (plan_of old) ≡ false)
    × (new ≡ record (after_send old) { sent = old.sent ++ posted ∷ []; room = one_room_less old.room })
Sends old posted (Err e) new =
    (send_falls posted.bytes (plan_of old) ≡ true) × (new ≡ record (after_send old) { faults = counted old.faults })

-- a receive call fails exactly where it falls, and else answers the first datagram that waits, and takes it
abbrev pub Hears : {E : Type 0} → LinkValue → Result Arrived E → List ℕ → LinkValue → Type 0
Hears old (Ok answer) buf new =
    (old.falls.recv ≡ false) × Answers old.pending answer buf × (new ≡ record old { pending = drop 1 old.pending })
Hears old (Err e) buf new =
    (old.falls.recv ≡ true) × (new ≡ record old { falls = record old.falls { recv = false }; faults = counted old.faults })

-- what is shown of a binding
abbrev pub ShowsBound : Option Binding → Option (ℕ × Bor (List Address)) → Type 0
ShowsBound None answer = answer ≡ None
ShowsBound (Some b) None = ⊥
ShowsBound (Some b) (Some x) = (x.0 ≡ b.me) × (x.1.now ≡ b.peers)

-- the first datagram that was sent is taken out, and none exactly where there is none
abbrev pub TakesOut : LinkValue → Option (ℕ × List ℕ) → LinkValue → Type 0
TakesOut old None new = (old.sent ≡ []) × (new ≡ old)
TakesOut old (Some x) new = (old.sent ≡ record { to = x.0; bytes = x.1 } ∷ new.sent) × (new ≡ record old { sent = new.sent })
