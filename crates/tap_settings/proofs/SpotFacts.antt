-- Where an input that is found stands.
use Rattle.std.proofs.Common.{◌≡◌, ℕ, List, Option, Some, slice_get, refl, subst, bytes_eq}
use Rattle.std.specs.List.{position}
use Rattle.std.proofs.lemmas.Option.{same_Some}
use Rattle.tap_base.specs.declared.system.Process.{Process}
use Rattle.tap_base.specs.declared.system.Var.{Var}
use Rattle.tap_base.specs.Option.{◌>>=◌}
use Rattle.tap_base.proofs.OptionFacts.{bound}
use Rattle.tap_settings.specs.declared.spots.Spot.{Spot}
use Rattle.tap_settings.specs.Spots.{spot_in, spot_of}

-- the process and the input of these numbers are there, and the range is that of the input
pub record Stands (processes : List Process) (spot : Spot) : Type 0 where
  pub process : Process
  pub process_is : slice_get processes spot.process ≡ Some process
  pub input : Var
  pub input_is : slice_get process.inputs spot.input ≡ Some input
  pub range_is : spot.range ≡ input.range

pub stands : (processes : List Process) (p x : List ℕ) (spot : Spot) → spot_of processes p x ≡ Some spot → Stands processes spot
stands processes p x spot e =
    let at = bound (λ i. slice_get processes i >>= λ q. spot_in i q x) (position (λ q. bytes_eq q.name p) processes) spot e in
    let process = bound (λ q. spot_in at.0 q x) (slice_get processes at.0) spot at.2 in
    let to : Var → ℕ → Option Spot = λ v j. Some (record { process = at.0; input = j; range = v.range }) in
    let place = bound (λ j. slice_get process.0.inputs j >>= λ v. to v j) (position (λ v. bytes_eq v.name x) process.0.inputs) spot process.2 in
    let input = bound (λ v. to v place.0) (slice_get process.0.inputs place.0) spot place.2 in
    let is : record { process = at.0; input = place.0; range = input.0.range } ≡ spot = same_Some _ spot input.2 in
    subst (Stands processes) is (record { process = process.0; process_is = process.1; input = input.0; input_is = input.1; range_is = refl })
