-- Variables, found so far and still to come.
use Rattle.std.proofs.Common.{◌≡◌, ℕ, ◌+◌, ◌<◌, sym, ◌∙◌, ap, List, [], ◌∷◌, ◌++◌, Option, Some, length, drop, take, get_or, map, arith}
use Rattle.std.specs.Prelude.{sum}
use Rattle.std.specs.Option.{option_map, option_and_then}
use Rattle.std.proofs.lemmas.List.{map-append}
use Rattle.std.proofs.Math.Nat.{zero-add}
use Rattle.std.proofs.lemmas.List.Sums.{sum_by-append}
use Rattle.tap_base.specs.declared.ast.AstVar.{AstVar}
use Rattle.tap_base.specs.declared.place.Range.{Range}
use Rattle.tap_names.specs.declared.named.Named.{Named}
use Rattle.tap_names.specs.VariableOffences.{cells_among}
use Rattle.tap_names.specs.Kinds.{cells_of, scalar_of}
use Rattle.tap_names.specs.Names.{range_of, variable_named, variable_names}
use Rattle.tap_names.specs.Tables.{Entry}
use Rattle.tap_base.proofs.ListFacts.{cut_at_item}
use Rattle.tap_base.proofs.LoopFacts.{before_next, pushed}

cells_more : (xs : List AstVar) (x : AstVar) → cells_among (xs ++ x ∷ []) ≡ cells_among xs + cells_of x.kind
cells_more xs x =
    ap sum (map-append (λ (v : AstVar). cells_of v.kind) xs (x ∷ [])) ∙ sum_by-append (λ n. n) (map (λ (v : AstVar). cells_of v.kind) xs) (cells_of x.kind ∷ [])
    ∙ ap (λ z. cells_among xs + z) (zero-add (cells_of x.kind))

module _ (consts : List (Entry Named)) (xs : List AstVar) (i : ℕ) (x : AstVar) (l : i < length xs) (q : x ≡ get_or xs i x) where
  pub cells_on : (cells own : ℕ) → own ≡ cells_of x.kind → cells ≡ cells_among (take i xs) → cells + own ≡ cells_among (take (i + 1) xs)
  cells_on cells own o h =
      let t : take (i + 1) xs ≡ take i xs ++ x ∷ [] = before_next xs i x l q in
      let m = cells_more (take i xs) x in
      let n : cells_among (take (i + 1) xs) ≡ cells_among (take i xs ++ x ∷ []) = ap cells_among t in
      omega (arith, o, h, m, n)

  pub variables_on : (cells own : ℕ) (range : Range) (old new : List (Entry Named)) (all : Option (List (Entry Named))) → own ≡ cells_of x.kind → range_of consts (scalar_of x.kind) ≡ Some range → new ≡ old ++ (x.name.text, variable_named cells range x.kind) ∷ [] → option_map (λ rest. old ++ rest) (variable_names consts cells (drop i xs)) ≡ all → option_map (λ rest. new ++ rest) (variable_names consts (cells + own) (drop (i + 1) xs)) ≡ all
  variables_on cells own range old new all o r n h =
      let y : Entry Named = (x.name.text, variable_named cells range x.kind) in
      let rest = variable_names consts (cells + cells_of x.kind) (drop (i + 1) xs) in
      ap (λ z. option_map (λ more. new ++ more) (variable_names consts (cells + z) (drop (i + 1) xs))) o
      ∙ ap (λ z. option_map (λ more. z ++ more) rest) n ∙ pushed old y rest
      ∙ ap (λ (z : Option Range). option_map (λ more. old ++ more) (option_and_then (λ w. option_and_then (λ ys. Some ((x.name.text, variable_named cells w x.kind) ∷ ys)) rest) z)) (sym r)
      ∙ sym (ap (λ z. option_map (λ more. old ++ more) (variable_names consts cells z)) (cut_at_item xs i x l q)) ∙ h
