-- What each instruction keeps where no rule is broken.
use Rattle.std.proofs.Common.{◌≡◌, ◌+◌, ℕ, zero, suc, Bool, true, false, not, if◌then◌else◌, List, [], ◌∷◌, ◌++◌, map, refl, ap, sym, subst, ◌∙◌, slice_get, Some, arith}
use Rattle.std.specs.Prelude.{nat_le}
use Rattle.tap_base.specs.ListWords.{by_number}
use Rattle.register_code.specs.declared.bad.Part.{Part}
use Rattle.register_code.specs.declared.bad.Part.TheVariants as part
use Rattle.register_code.specs.declared.code.Code.{Code}
use Rattle.register_code.specs.declared.code.CodeAction.{CodeAction}
use Rattle.register_code.specs.declared.code.CodeProcess.{CodeProcess}
use Rattle.register_code.specs.declared.instr.Instr.{Instr}
use Rattle.register_code.specs.Declarations.{limits_kept, fields_fit, values_fit, temporaries_fit, guard_fits}
use Rattle.register_code.specs.Loops.{cost, sends}
use Rattle.register_code.specs.Jumping.{AreWhole, jumps_well, loops_well}
use Rattle.register_code.specs.Naming.{names_exist}
use Rattle.register_code.specs.Results.{delay_fits, has_options, index_fits, result_fits}
use Rattle.register_code.specs.Rules.{broken, unless}
use Rattle.register_code.specs.Sending.{can_send}
use Rattle.register_code.specs.Sites.{Site}
use Rattle.register_code.specs.Verified.{IsVerified, where_broken, instr_breaks, part_breaks, whole_breaks, whole_rules, action_breaks, process_breaks, site_of}

-- ---- lists

pub nothing : {A : Type 0} (xs ys : List A) → xs ++ ys ≡ [] → (xs ≡ []) × (ys ≡ [])
nothing [] ys e = (refl, e)
nothing (x ∷ xs) ys e = cc

no_map : {A B : Type 0} (f : A → B) (xs : List A) → map f xs ≡ [] → xs ≡ []
no_map f [] e = refl
no_map f (x ∷ xs) e = cc

no_each : {A B : Type 0} (n k : ℕ) (f : ℕ → A → List B) (xs : List A) (x : A) → by_number n f xs ≡ [] → slice_get xs k ≡ Some x → f (n + k) x ≡ []
no_each n k f [] x e is = cc
no_each n zero f (y ∷ ys) x e is =
    let same : y ≡ x = cc in
    let here : n ≡ n + 0 = omega arith in
    subst (λ m. f m x ≡ []) here (ap (f n) (sym same) ∙ (nothing (f n y) (by_number (n + 1) f ys) e).0)
no_each n (suc k) f (y ∷ ys) x e is =
    let next : n + 1 + k ≡ n + suc k = omega arith in
    subst (λ m. f m x ≡ []) next (no_each (n + 1) k f ys x (nothing (f n y) (by_number (n + 1) f ys) e).1 is)

pub of_each : {A B : Type 0} (k : ℕ) (f : ℕ → A → List B) (xs : List A) (x : A) → by_number 0 f xs ≡ [] → slice_get xs k ≡ Some x → f k x ≡ []
of_each k f xs x e is = let same : 0 + k ≡ k = omega arith in subst (λ m. f m x ≡ []) same (no_each 0 k f xs x e is)

-- ---- one instruction

is_kept : (kept : Bool) (rule : ℕ) → unless kept rule ≡ [] → kept ≡ true
is_kept true rule e = refl
is_kept false rule e = cc

pub record Keeps (s : Site) (at : ℕ) (i : Instr) : Type 0 where
  pub names : names_exist s i ≡ true
  pub result : result_fits s i ≡ true
  pub index : index_fits s i ≡ true
  pub options : has_options s i ≡ true
  pub sends : can_send s i ≡ true
  pub jumps : jumps_well s.instrs at i ≡ true
  pub loops : loops_well s.instrs at i ≡ true
  pub delay : delay_fits s i ≡ true

pub keeps : (s : Site) (at : ℕ) (i : Instr) → broken s at i ≡ [] → Keeps s at i
keeps s at i e = by_names (names_exist s i) refl e where
  by_names : (b : Bool) → names_exist s i ≡ b
      → (if not b then 4 ∷ []
      else unless (result_fits s i) 5 ++ unless (index_fits s i) 6 ++ unless (has_options s i) 7 ++ unless (can_send s i) 8 ++ unless (jumps_well s.instrs at i) 9 ++ unless (loops_well s.instrs at i) 10 ++ unless (delay_fits s i) 13) ≡ []
      → Keeps s at i
  by_names false f g = cc
  by_names true f g =
      let h13 = nothing _ (unless (delay_fits s i) 13) g in
      let h10 = nothing _ (unless (loops_well s.instrs at i) 10) h13.0 in
      let h9 = nothing _ (unless (jumps_well s.instrs at i) 9) h10.0 in
      let h8 = nothing _ (unless (can_send s i) 8) h9.0 in
      let h7 = nothing _ (unless (has_options s i) 7) h8.0 in
      let h6 = nothing (unless (result_fits s i) 5) (unless (index_fits s i) 6) h7.0 in
      record {
        names = f;
        result = is_kept (result_fits s i) 5 h6.0;
        index = is_kept (index_fits s i) 6 h6.1;
        options = is_kept (has_options s i) 7 h7.1;
        sends = is_kept (can_send s i) 8 h8.1;
        jumps = is_kept (jumps_well s.instrs at i) 9 h9.1;
        loops = is_kept (loops_well s.instrs at i) 10 h10.1;
        delay = is_kept (delay_fits s i) 13 h13.1;
      }

-- ---- one part

not_broken : (kept : Bool) (p a : ℕ) (which : Part) (i rule : ℕ) → where_broken kept p a which i rule ≡ [] → kept ≡ true
not_broken true p a which i rule e = refl
not_broken false p a which i rule e = cc

pub record PartKeeps (s : Site) : Type 0 where
  pub each : (at : ℕ) (i : Instr) → slice_get s.instrs at ≡ Some i → Keeps s at i
  pub cheap : nat_le (cost s.instrs) 16000000 ≡ true
  pub few : nat_le (sends s.instrs) 64 ≡ true

pub part_keeps : (s : Site) (a : ℕ) → part_breaks s a ≡ [] → PartKeeps s
part_keeps s a e =
    let parts = nothing (by_number 0 (instr_breaks s a) s.instrs) (whole_breaks s a) e in
    let rules = no_map _ (whole_rules s.instrs) parts.1 in
    let both = nothing (unless (nat_le (cost s.instrs) 16000000) 11) (unless (nat_le (sends s.instrs) 64) 12) rules in
    record {
      each = λ at i is. keeps s at i (no_map _ (broken s at i) (of_each at (instr_breaks s a) s.instrs i parts.0 is));
      cheap = is_kept (nat_le (cost s.instrs) 16000000) 11 both.0;
      few = is_kept (nat_le (sends s.instrs) 64) 12 both.1;
    }

pub are_whole : (s : Site) → PartKeeps s → AreWhole s.instrs
are_whole s h at i is = let k = h.each at i is in (k.jumps, k.loops)

-- ---- all of it

pub record ActionKeeps (code : Code) (p : ℕ) (process : CodeProcess) (action : CodeAction) : Type 0 where
  pub temporaries : temporaries_fit action ≡ true
  pub agrees : guard_fits code p process action ≡ true
  pub part : (which : Part) → PartKeeps (site_of code p process action which)

pub record CodeKeeps (code : Code) : Type 0 where
  pub limits : limits_kept code ≡ true
  pub fields : fields_fit code ≡ true
  pub values : (p : ℕ) (process : CodeProcess) → slice_get code.processes p ≡ Some process → values_fit process ≡ true
  pub actions : (p : ℕ) (process : CodeProcess) → slice_get code.processes p ≡ Some process → (a : ℕ) (action : CodeAction) → slice_get process.actions a ≡ Some action → ActionKeeps code p process action

pub action_keeps : (code : Code) (p : ℕ) (process : CodeProcess) (a : ℕ) (action : CodeAction) → action_breaks code p process a action ≡ [] → ActionKeeps code p process action
action_keeps code p process a action e =
    let body = nothing _ (part_breaks (site_of code p process action part.Body) a) e in
    let guard = nothing _ (part_breaks (site_of code p process action part.Guard) a) body.0 in
    let first = nothing (where_broken (temporaries_fit action) p a part.Guard 0 2) (where_broken (guard_fits code p process action) p a part.Guard 0 3) guard.0 in
    record { temporaries = not_broken _ _ _ _ _ _ first.0; agrees = not_broken _ _ _ _ _ _ first.1; part = both guard.1 body.1 } where
      both : part_breaks (site_of code p process action part.Guard) a ≡ [] → part_breaks (site_of code p process action part.Body) a ≡ [] → (which : Part) → PartKeeps (site_of code p process action which)
      both g b part.Guard = part_keeps (site_of code p process action part.Guard) a g
      both g b part.Body = part_keeps (site_of code p process action part.Body) a b

pub code_keeps : (code : Code) → IsVerified code → CodeKeeps code
code_keeps code e =
    let all = nothing _ (by_number 0 (process_breaks code) code.processes) e in
    let first = nothing (where_broken (limits_kept code) 0 0 part.Guard 0 1) (where_broken (fields_fit code) 0 0 part.Guard 0 2) all.0 in
    record {
      limits = not_broken _ _ _ _ _ _ first.0;
      fields = not_broken _ _ _ _ _ _ first.1;
      values = λ p process is. let h = of_each p (process_breaks code) code.processes process all.1 is in not_broken _ _ _ _ _ _ (nothing (where_broken (values_fit process) p 0 part.Guard 0 2) (by_number 0 (action_breaks code p process) process.actions) h).0;
      actions = λ p process is a action at. let h = of_each p (process_breaks code) code.processes process all.1 is in
          action_keeps code p process a action (of_each a (action_breaks code p process) process.actions action (nothing (where_broken (values_fit process) p 0 part.Guard 0 2) (by_number 0 (action_breaks code p process) process.actions) h).1 at);
    }

-- Where no instruction breaks a rule, jumps and loops keep theirs.
pub whole_when : (s : Site) (a : ℕ) → by_number 0 (instr_breaks s a) s.instrs ≡ [] → AreWhole s.instrs
whole_when s a e at i is = let k = keeps s at i (no_map _ (broken s at i) (of_each at (instr_breaks s a) s.instrs i e is)) in (k.jumps, k.loops)
