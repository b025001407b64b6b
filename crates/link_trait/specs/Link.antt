-- What a link tells, and what its calls leave of it.
use Rattle.std.specs.Prelude.{ℕ, ◌-◌, ◌==◌, ◌≡◌, ◌≤◌, ⊤, min, Bool, true, false, ◌||◌, nat_lt, List, [], ◌∷◌, ◌++◌, length, take, drop, Option, Some, None, IfSome, Result, Ok, Err}
use Rattle.std.specs.Option.{option_map}
use Rattle.link_trait.specs.declared.datagram.Address.{Address}
use Rattle.link_trait.specs.declared.datagram.Arrived.{Arrived}
use Rattle.link_trait.specs.declared.datagram.Arrived.TheVariants as arrived
use Rattle.link_trait.specs.declared.datagram.Delivered.{Delivered}
use Rattle.link_trait.specs.declared.datagram.Posted.{Posted}

-- ---- what is bound

-- a process number, and the addresses of all processes
pub record Binding : Type 0 where
  pub me : ℕ
  pub peers : List Address

-- The lists of this number are meant: of the one that is bound, and of every number where none is, or it is not told.
abbrev pub SpeaksFor : Option (Option Binding) → ℕ → Type 0
SpeaksFor (Some (Some b)) n = b.me ≡ n
SpeaksFor _ n = ⊤

-- what is bound after a bind, where told; a bind that fails leaves it
abbrev pub bound_after : {T E : Type 0} → Option (Option Binding) → Binding → Result T E → Option (Option Binding)
bound_after old b (Ok x) = option_map (λ _. Some b) old
bound_after old b (Err e) = old

-- ---- the plan

-- which coming calls are to fail
pub record Plan : Type 0 where
  -- whether the next bind falls
  pub bind : Bool
  -- whether the next receive call falls
  pub recv : Bool
  -- how many sends go out before one falls
  pub sends : ℕ
  -- how many bytes a datagram has at most that goes out
  pub bytes : ℕ

-- a send of these bytes falls: none goes out, or they are too many
abbrev pub send_falls : List ℕ → Plan → Bool
send_falls bytes plan = plan.sends == 0 || nat_lt plan.bytes (length bytes)

-- the plan after a send that went out
abbrev pub one_send_less : Plan → Plan
one_send_less plan = record plan { sends = plan.sends - 1 }

-- Where the plan is told, a call fails exactly where it falls, and another answer leaves this of the plan.
abbrev pub Follows : {T E : Type 0} → Option Plan → (Plan → Bool) → (Plan → Plan) → Result T E → Option Plan → Type 0
Follows old falls left (Ok x) new = IfSome old (λ plan. falls plan ≡ false) × (new ≡ option_map left old)
Follows old falls left (Err e) new = IfSome old (λ plan. falls plan ≡ true)

-- ---- the datagrams that were sent

-- what was sent after a send, where told; one that fails leaves it
abbrev pub sent_after : {T E : Type 0} → Option (List Posted) → Posted → Result T E → Option (List Posted)
sent_after old posted (Ok x) = option_map (λ all. all ++ posted ∷ []) old
sent_after old posted (Err e) = old

-- ---- the datagrams that are pending

-- an answer tells of at most n bytes
abbrev pub IsWithin : ℕ → Arrived → Type 0
IsWithin n arrived.Nothing = ⊤
IsWithin n arrived.Stranger = ⊤
IsWithin n (arrived.Got from len) = len ≤ n

-- The answer for a datagram: that it is a stranger's, or whose it is, with as much of its front as the buffer holds.
abbrev pub Shows : Delivered → Arrived → List ℕ → Type 0
Shows d arrived.Nothing buf = ⊥
Shows d arrived.Stranger buf = d.from ≡ None
Shows d (arrived.Got from len) buf = (d.from ≡ Some from) × (len ≡ min (length d.bytes) (length buf)) × (take len buf ≡ take len d.bytes)

-- the answer where these are pending: that of the first one, and Nothing exactly where none is
abbrev pub Answers : List Delivered → Arrived → List ℕ → Type 0
Answers [] answer buf = answer ≡ arrived.Nothing
Answers (d ∷ ds) answer buf = Shows d answer buf

-- a receive call answers the first pending datagram and takes it, where told; one that fails takes none
abbrev pub Receives : {E : Type 0} → Option (List Delivered) → Result Arrived E → List ℕ → Option (List Delivered) → Type 0
Receives old (Ok answer) buf new = IfSome old (λ ds. Answers ds answer buf) × (new ≡ option_map (drop 1) old)
Receives old (Err e) buf new = new ≡ old
