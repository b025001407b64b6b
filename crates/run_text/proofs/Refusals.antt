-- What a reader answers of one thing, it answers of another.
use Rattle.std.proofs.Common.{◌≡◌, Result, Ok, Err}
use Rattle.run_text.specs.declared.fault.LineFault.{LineFault}
use Rattle.run_text.specs.declared.fault.LineFault.TheVariants as fault
use Rattle.run_text.specs.Reads.{NothingIs, Reads}

-- where the two are of the same values
pub reads_both : {A : Type 0} (P Q : A → Type 0) (r : Result A LineFault) → ((x : A) → P x → Q x) → ((x : A) → Q x → P x) → Reads P r → Reads Q r
reads_both P Q (Ok x) to from h = to x h
reads_both P Q (Err e) to from h = λ bad x q. h bad x (from x q)

-- nothing is the whole where nothing is a part of it
pub refused : {A B : Type 0} (P : A → Type 0) (Q : B → Type 0) (e : LineFault) → ((y : B) → Q y → (x : A) × P x) → (e ≡ fault.BadLine → NothingIs P) → e ≡ fault.BadLine → NothingIs Q
refused P Q e part h bad y q = let p = part y q in h bad p.0 p.1
