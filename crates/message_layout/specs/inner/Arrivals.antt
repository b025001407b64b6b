-- What may come, in order.
use Rattle.std.specs.Prelude.{ℕ, ◌==◌, nat_lt, Bool, ◌&&◌, ◌||◌, List, [], ◌∷◌}
use Rattle.std.specs.List.{All, AllPairs, Contains}
use Rattle.tap_base.specs.declared.wire.Receive.{Receive}
use Rattle.message_layout.specs.declared.arrivals.Arrival.{Arrival}
use Rattle.message_layout.specs.Clashes.{StandBefore}

abbrev pub arrival : ℕ → ℕ → ℕ → Arrival
arrival p q m = record { to = p; from = q; message = m }

abbrev pub arrival_of : Receive → Arrival
arrival_of r = arrival r.by r.from r.message

-- one arrival stands before another: by receiver, then peer, then message
abbrev pub IsEarlier : Arrival → Arrival → Type 0
IsEarlier a b = StandBefore (a.to ∷ a.from ∷ a.message ∷ []) (b.to ∷ b.from ∷ b.message ∷ [])

-- each arrival stands before all later ones
abbrev pub AreInOrder : List Arrival → Type 0
AreInOrder arrivals = AllPairs IsEarlier arrivals

-- an arrival stands before, and behind, all that p receives from q
abbrev pub stands_before : Arrival → ℕ → ℕ → Bool
stands_before a p q = nat_lt a.to p || (a.to == p && nat_lt a.from q)

abbrev pub stands_behind : Arrival → ℕ → ℕ → Bool
stands_behind a p q = nat_lt p a.to || (a.to == p && nat_lt q a.from)

-- what may come by these receives, in order
pub record AreArrivals (receives : List Receive) (arrivals : List Arrival) : Type 0 where
  pub order : AreInOrder arrivals
  pub some : (p q m : ℕ) → Contains arrivals (arrival p q m) → Contains receives (record { by = p; from = q; message = m })
  pub all : (p q m : ℕ) → Contains receives (record { by = p; from = q; message = m }) → Contains arrivals (arrival p q m)

-- those of one receiver and one peer
pub record AreBetween (arrivals : List Arrival) (p q : ℕ) (found : List Arrival) : Type 0 where
  pub some : All (λ a. Contains arrivals (arrival p q a.message)) found
  pub all : (m : ℕ) → Contains arrivals (arrival p q m) → Contains found (arrival p q m)
