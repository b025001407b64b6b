use Rattle.std.proofs.Common.{◌≡◌, ◌⊎◌, inl, inr, ◌++◌, ◌∷◌, ℤ, ℕ, List, [], refl, ap, sym, ◌∙◌, rules, append-nil, string_bytes}
use Rattle.run_text.specs.declared.names.VarName.{VarName}
use Rattle.run_text.specs.TraceText.{lines_text, var_lines}
use Rattle.run_text.proofs.Zipped.{end_of_one}
use Rattle.run_text.proofs.vars.write_all_vars.Goals as goal

-- no line is left where one of the lists is at its end
no_lines : (names : List (List ℕ)) (vars : List (List VarName)) (stores : List (List ℤ)) → (names ≡ []) ⊎ ((vars ≡ []) ⊎ (stores ≡ [])) → var_lines names vars stores ≡ []
no_lines names vars stores (inl e) = ap (λ x. var_lines x vars stores) e
no_lines [] vars stores (inr (inl e)) = refl
no_lines (n ∷ names) vars stores (inr (inl e)) = ap (λ x. var_lines (n ∷ names) x stores) e
no_lines [] vars stores (inr (inr e)) = refl
no_lines (n ∷ names) [] stores (inr (inr e)) = refl
no_lines (n ∷ names) (v ∷ vars) stores (inr (inr e)) = ap (λ x. var_lines (n ∷ names) (v ∷ vars) x) e

pub returns : goal.returns
returns c =
    let at_end = end_of_one _ _ _ c.args.names.now.processes c.args.names.now.vars c.args.stores.now c.loop-process.yielded c.into_iter-process-iterator.result c.loop-process.process-iterator c.next.new.self c.next.result (search rules) (search rules) (search rules) c.loop-process.yielded_by c.in-None.is c.next.ensures.steps in
    let none = no_lines _ _ _ at_end in
    sym (append-nil _) ∙ ap (λ x. string_bytes c.loop-process.text ++ lines_text x) (sym none) ∙ c.loop-process.invariant
