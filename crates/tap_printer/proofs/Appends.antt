-- Tokens that are written behind others.
use Rattle.std.proofs.Common.{◌≡◌, refl, sym, ◌∙◌, ap, List, [], ◌∷◌, ◌++◌, codes, Some, Result, Ok, Err, OnOk, append_assoc}
use Rattle.tap_printer.specs.Printed.{Printed, sign_of, bytes_of, before_token, text_behind, text_of}
use Rattle.tap_printer.specs.inner.Pages.{Page, put, blank, after}

pub after_append : (p : Page) (ts us : List Printed) → after p (ts ++ us) ≡ after (after p ts) us
after_append p [] us = refl
after_append p (t ∷ ts) us = after_append (put p (sign_of t) (bytes_of t)) ts us

-- what stands on a page, up to the line feed that ends a text
pub text_after : (p : Page) (ts : List Printed) → (after p ts).bytes ++ codes "\n" ≡ p.bytes ++ text_behind p.last ts
text_after p [] = refl
text_after p (t ∷ ts) =
    text_after (put p (sign_of t) (bytes_of t)) ts
    ∙ append_assoc (p.bytes ++ before_token p.last (sign_of t)) (bytes_of t) (text_behind (Some (sign_of t)) ts)
    ∙ append_assoc p.bytes (before_token p.last (sign_of t)) (bytes_of t ++ text_behind (Some (sign_of t)) ts)
    ∙ ap (λ x. p.bytes ++ x) (sym (append_assoc (before_token p.last (sign_of t)) (bytes_of t) (text_behind (Some (sign_of t)) ts)))

pub text_is : (ts : List Printed) → (after blank ts).bytes ++ codes "\n" ≡ text_of ts
text_is ts = text_after blank ts

-- what holds of an answer, passed on
pub on_ok : {T E : Type 0} {P Q : Type 0} (r : Result T E) → OnOk r P → (P → Q) → OnOk r Q
on_ok (Ok v) h f = f h
on_ok (Err e) h f = tt
