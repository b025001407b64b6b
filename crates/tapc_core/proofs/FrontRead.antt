-- A reading that is under way.
use Rattle.std.proofs.Common.{◌≡◌, ◌≤◌, ◌<◌, ◌+◌, ℕ, List, ◌++◌, length, take, Option, Some, None, IfSome, ap, ◌∙◌, arith}
use Rattle.std.proofs.lemmas.List.{length-take, take_all}
use Rattle.std.proofs.Math.ListN.{drop_of_length-le}
use Rattle.tap_front.specs.Accepting.{longest_text}
use Rattle.tapc_core.specs.Reading.{ReadsFront, ReadsWhole, ReadsText}
use Rattle.tapc_core.specs.declared.reading.Reading.TheVariants.{TooLong}

-- where the contents are told, they are the bytes that were read and what is left
abbrev pub Parts : Option (List ℕ) → List ℕ → Option (List ℕ) → Type 0
Parts told bytes left = IfSome told (λ contents. (rest : List ℕ) × (left ≡ Some rest) × (contents ≡ bytes ++ rest))

pub whole_from_front : (told : Option (List ℕ)) (most : ℕ) (bytes : List ℕ) (left : Option (List ℕ)) → length bytes < most
    → ReadsFront told most bytes left → ReadsWhole told bytes left
whole_from_front None most bytes left short front = tt
whole_from_front (Some contents) most bytes left short front =
    let read : length bytes ≡ length (take most contents) = ap length front.0 in
    let all : length contents ≤ most = omega (arith, length-take most contents) in
    (front.0 ∙ take_all most contents all, front.1 ∙ ap Some (drop_of_length-le contents all))

pub longer_than_read : (told : Option (List ℕ)) (bytes : List ℕ) (left : Option (List ℕ)) → longest_text < length bytes
    → ReadsFront told (longest_text + 1) bytes left → ReadsText told TooLong left
longer_than_read None bytes left long front = tt
longer_than_read (Some contents) bytes left long front =
    let read : length bytes ≡ length (take (longest_text + 1) contents) = ap length front.0 in
    (omega (arith, length-take (longest_text + 1) contents), front.1)
