-- What a map by texts holds, as names with what they stand for.
use Rattle.std.proofs.Common.{◌≡◌, ℕ, ◌+◌, refl, sym, ◌∙◌, ap, Bool, not, cond, true, false, List, [], ◌∷◌, ◌++◌, Option, Some, None, length, map}
use Rattle.std.specs.Prelude.{bytes_eq, nat_lt, is_some, position}
use Rattle.std.specs.List.{prefix_len}
use Rattle.indexmap.specs.IndexMap.{insert_entry}
use Rattle.std.specs.Map.{lookup, keys_of}
use Rattle.std.proofs.lemmas.List.{length-map}
use Rattle.tap_names.specs.Tables.{Entry, standing_for, is_among, names_in}

module _ {K V : Type 0} (text : K → List ℕ) (name : List ℕ) where
  abbrev seen : K × V → Entry V
  seen e = (text e.0, e.1)

  pub found : (es : List (K × V)) → lookup (λ k. bytes_eq name (text k)) es ≡ standing_for name (map seen es)
  found [] = refl
  found (e ∷ es) = ap (λ r. cond (bytes_eq name (text e.0)) (Some e.1) r) (found es)

  some_or : (b : Bool) (x : V) (r : Option V) (s : Bool) → is_some r ≡ s → is_some (cond b (Some x) r) ≡ cond b true s
  some_or true x r s e = refl
  some_or false x r s e = e

  pub known : (es : List (K × V)) → is_some (lookup (λ k. bytes_eq name (text k)) es) ≡ is_among name (names_in (map seen es))
  known [] = refl
  known (e ∷ es) = some_or (bytes_eq name (text e.0)) e.1 (lookup (λ k. bytes_eq name (text k)) es) (is_among name (names_in (map seen es))) (known es)

  prefixes : (es : List (K × V)) → prefix_len (λ k. not (bytes_eq name (text k))) (keys_of es) ≡ prefix_len (λ x. not (bytes_eq name x)) (names_in (map seen es))
  prefixes [] = refl
  prefixes (e ∷ es) = ap (λ k. cond (not (bytes_eq name (text e.0))) (1 + k) 0) (prefixes es)

  pub placed : (es : List (K × V)) → position (λ k. bytes_eq name (text k)) (keys_of es) ≡ position (λ x. bytes_eq name x) (names_in (map seen es))
  placed es =
      let k = prefix_len (λ x. not (bytes_eq name x)) (names_in (map seen es)) in
      let a = length-map es (λ (e : K × V). e.0) in
      let b = length-map es seen in
      let c = length-map (map seen es) (λ (e : Entry V). e.0) in
      let n : length (keys_of es) ≡ length (names_in (map seen es)) = a ∙ sym b ∙ sym c in
      ap (λ j. cond (nat_lt j (length (keys_of es))) (Some j) None) (prefixes es) ∙ ap (λ j. cond (nat_lt k j) (Some k) None) n

  -- a text that is no key comes behind the keys
  pub added : (eq : K → K → Bool) (k : K) (v : V) → text k ≡ name → ((x : K) → eq k x ≡ bytes_eq (text k) (text x)) → (es : List (K × V)) → is_among name (names_in (map seen es)) ≡ false → map seen (insert_entry eq es k v) ≡ map seen es ++ (name, v) ∷ []
  added eq k v e q [] n = ap (λ t. (t, v) ∷ []) e
  added eq k v e q (x ∷ es) n =
      by (bytes_eq name (text x.0)) refl n (added eq k v e q es)
    where
      by : (b : Bool) → bytes_eq name (text x.0) ≡ b → cond b true (is_among name (names_in (map seen es))) ≡ false → (is_among name (names_in (map seen es)) ≡ false → map seen (insert_entry eq es k v) ≡ map seen es ++ (name, v) ∷ []) → map seen (insert_entry eq (x ∷ es) k v) ≡ seen x ∷ (map seen es ++ (name, v) ∷ [])
      by true h f r = absurd cc
      by false h f r =
          let t : eq k x.0 ≡ false = q x.0 ∙ ap (λ z. bytes_eq z (text x.0)) e ∙ h in
          ap (λ b. map seen (cond b ((x.0, v) ∷ es) (x ∷ insert_entry eq es k v))) t ∙ ap (λ zs. seen x ∷ zs) (r f)
