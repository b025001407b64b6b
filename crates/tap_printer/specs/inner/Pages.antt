-- What tokens make of a text that has begun.
use Rattle.std.specs.Prelude.{ℕ, List, [], ◌∷◌, ◌++◌, Option, Some, None}
use Rattle.tap_base.specs.declared.token.Sign.{Sign}
use Rattle.tap_printer.specs.Printed.{Printed, sign_of, bytes_of, before_token}

-- the bytes so far, and the sign of the last token, if there is one
pub record Page : Type 0 where
  pub bytes : List ℕ
  pub last : Option Sign

abbrev pub blank : Page
blank = record { bytes = []; last = None }

-- the page with a token behind what it has, by its sign and its bytes
abbrev pub put : Page → Sign → List ℕ → Page
put page s bytes = record { bytes = page.bytes ++ before_token page.last s ++ bytes; last = Some s }

-- the page with tokens behind what it has
abbrev pub after : Page → List Printed → Page
after page [] = page
after page (t ∷ ts) = after (put page (sign_of t) (bytes_of t)) ts
