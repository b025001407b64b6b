-- How an offence is printed.
use Rattle.std.specs.Prelude.{ℕ, List, [], ◌++◌, codes}
use Rattle.std.specs.Fmt.{decimal}
use Rattle.tap_base.specs.declared.place.Place.{Place}
use Rattle.tap_base.specs.declared.refusal.RefusalCode.{RefusalCode}
use Rattle.tap_base.specs.declared.refusal.RefusalCode.TheVariants as code
use Rattle.tap_front.specs.declared.offence.Offence.{Offence}
use Rattle.tap_front.specs.declared.offence.Offence.TheVariants.{Alike, Coded}

-- a code as it is printed
abbrev pub code_word : RefusalCode → List ℕ
code_word code.L0 = codes "L0"
code_word code.L1 = codes "L1"
code_word code.L2 = codes "L2"
code_word code.S1 = codes "S1"
code_word code.S2 = codes "S2"
code_word code.S3 = codes "S3"
code_word code.N1 = codes "N1"
code_word code.N2 = codes "N2"
code_word code.N3 = codes "N3"
code_word code.K1 = codes "K1"
code_word code.K2 = codes "K2"
code_word code.X1 = codes "X1"
code_word code.X2 = codes "X2"
code_word code.M1 = codes "M1"
code_word code.M2 = codes "M2"
code_word code.M3 = codes "M3"
code_word code.W1 = codes "W1"
code_word code.W2 = codes "W2"
code_word code.W3 = codes "W3"
code_word code.W4 = codes "W4"
code_word code.W5 = codes "W5"
code_word code.W6 = codes "W6"
code_word code.W7 = codes "W7"

-- the code of an offence as it is printed
abbrev pub offence_code : Offence → List ℕ
offence_code (Coded r) = code_word r.code
offence_code (Alike place first second) = codes "M2"

abbrev pub offence_place : Offence → Place
offence_place (Coded r) = r.place
offence_place (Alike place first second) = place

-- what is written behind the place: the names of two messages that are not told apart
abbrev pub offence_names : Offence → List ℕ
offence_names (Coded r) = []
offence_names (Alike place first second) = codes " " ++ first ++ codes " " ++ second

-- the line that is written of an offence
abbrev pub refused_line : Offence → List ℕ
refused_line o = codes "refused " ++ offence_code o ++ codes " " ++ decimal (offence_place o).line ++ codes ":" ++ decimal (offence_place o).column ++ offence_names o ++ codes "\n"
