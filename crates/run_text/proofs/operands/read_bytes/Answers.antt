use Rattle.std.proofs.Common.{◌≡◌, ℕ, List, [], ◌∷◌, Bool, false, Ok, sym, ◌∙◌, ap, inl, inr}
use Rattle.std.proofs.lemmas.Result.{IfOk-at_ok}
use Rattle.std.specs.String.{string_bytes}
use Rattle.hex.specs.Hex.{decode_of, encode_lower, IsBytes}
use Rattle.hex.proofs.HexLemmas.{decode_of-same}
use Rattle.std.specs.Str.{bytes_eq}
use Rattle.std.specs.Prelude.{true}
use Rattle.std.proofs.lemmas.Slice.Eq.{bytes_eq-Decides}
use Rattle.run_text.proofs.Hexes.{decoded, encoded, read_back}
use Rattle.run_text.proofs.operands.read_bytes.Goals as goal

not_true : (b : Bool) → b ≡ false → b ≡ true → ⊥
not_true b f t = cc

pub returns-in_default : goal.returns-in_default
returns-in_default c = λ bad bytes w.
    let other : c.args.word.now ≡ 45 ∷ [] → ⊥ = λ e. not_true c.is_minus.result c.if-is_minus.false (c.is_minus.ensures.1 e) in
    elim c.in-Err.ensures.err [
      | inl memory ↦ absurd (c.in_default.not-OutOfMemory memory)
      | inr different ↦ cc (sym (decoded c.args.word.now bytes other w) ∙ different)
    ]

pub returns-then-eq : goal.returns-then-eq
returns-then-eq c =
    let ok = IfOk-at_ok _ c.in-Ok.is c.decode.ensures.ok in
    let digits : string_bytes c.in-Ok-encode.digits ≡ encode_lower c.as_slice.result.now = IfOk-at_ok _ c.in-Ok-encode.is c.encode.ensures in
    let shown : c.as_bytes.result.now ≡ encode_lower c.in-Ok.bytes.items = c.as_bytes.ensures.value ∙ digits ∙ ap encode_lower c.as_slice.ensures.value in
    let same : c.as_bytes.result.now ≡ c.args.word.now = (bytes_eq-Decides c.as_bytes.result.now c.args.word.now).0 (sym c.eq.ensures ∙ c.if-eq.true) in
    read_back c.args.word.now c.in-Ok.bytes.items c.is_empty.result c.if-is_empty.false c.is_empty.ensures ok (sym shown ∙ same)

pub returns-else-eq : goal.returns-else-eq
returns-else-eq c = λ bad bytes w.
    let other : c.args.word.now ≡ 45 ∷ [] → ⊥ = λ e. not_true c.is_minus.result c.if-is_minus.false (c.is_minus.ensures.1 e) in
    let ok = IfOk-at_ok _ c.in-Ok.is c.decode.ensures.ok in
    let one : c.in-Ok.bytes.items ≡ bytes = decode_of-same c.args.word.now c.in-Ok.bytes.items bytes ok (decoded c.args.word.now bytes other w) in
    let digits : string_bytes c.in-Ok-encode.digits ≡ encode_lower c.as_slice.result.now = IfOk-at_ok _ c.in-Ok-encode.is c.encode.ensures in
    let shown : c.as_bytes.result.now ≡ c.args.word.now = c.as_bytes.ensures.value ∙ digits ∙ ap encode_lower (c.as_slice.ensures.value ∙ one) ∙ encoded c.args.word.now bytes other w in
    let equal : bytes_eq c.as_bytes.result.now c.args.word.now ≡ true = (bytes_eq-Decides c.as_bytes.result.now c.args.word.now).1 shown in
    cc (c.if-eq.ensures ∙ equal)
