-- What the chain of a point does, hit after hit, if hits are rigged.
use Rattle.std.proofs.Common.{◌≡◌, ℕ, zero, suc, ◌+◌, ◌-◌, ◌<◌, ◌≤◌, ◌==◌, ◌&&◌, inl, inr, nat_le, Bool, true, false, cond, Option, Some, None, List, [], ◌∷◌, ◌++◌, map, refl, ap, sym, ◌∙◌, arith}
use Rattle.std.specs.Prelude.{find}
use Rattle.std.specs.Option.{option_map_or}
use Rattle.std.specs.List.{AllByRecursion}
use Rattle.std.proofs.lemmas.Bool.Decides.{nat_tests}
use Rattle.scenario_values.specs.declared.term.Term.{Term}
use Rattle.scenario_values.specs.declared.term.Task.{Task}
use Rattle.scenario_values.specs.declared.term.Task.TheVariants as task
use Rattle.scenario_values.specs.Tidied.{is_used}
use Rattle.action_eval.proofs.Machine.{passed, acts, step, done}
use Rattle.action_eval.proofs.Chains.{from, without}
use Rattle.action_eval.specs.declared.rig.Site.{Site}
use Rattle.action_eval.specs.declared.rig.Rig.{Rig}
use Rattle.action_eval.specs.declared.rig.Kind.{Kind}
use Rattle.action_eval.specs.declared.rig.Kind.TheVariants.{OnceReturn, OnwardReturn, OncePanic}
use Rattle.action_eval.specs.RiggedScenario.{full, term_of, rigged, chain_from, rig}
use Rattle.plan_gen.specs.RiggedAnswers.{IsBefore, AreInOrder, is_onward, acts_at}

-- what is done at hit k of point p
abbrev pub rigged_task : List Rig → ℕ → ℕ → Task
rigged_task rigs p k = option_map_or (λ r. (term_of r.kind).task) (find (acts_at p k) rigs) task.Off

-- The same at the hits of p after n of them, if the next words have these numbers.
abbrev pub tasks : List Rig → ℕ → ℕ → List ℕ → List (Task × ℕ)
tasks rigs p n [] = []
tasks rigs p n (x ∷ xs) = (rigged_task rigs p (n + 1), x) ∷ tasks rigs p (n + 1) xs

abbrev first_of : Bool → Rig → List Rig → ℕ → ℕ → Task
first_of b r rs p k = option_map_or (λ (r : Rig). (term_of r.kind).task) (cond b (Some r) (find (acts_at p k) rs)) task.Off

-- the rigged hits of p come after hit n of it
abbrev pub ComeAfter : ℕ → ℕ → List Rig → Type 0
ComeAfter p n rs = AllByRecursion (λ (r : Rig). r.site.point ≡ p → n < r.site.hit) rs

after_less : (p m n : ℕ) (rs : List Rig) → m ≤ n → ComeAfter p n rs → ComeAfter p m rs
after_less p m n [] h a = tt
after_less p m n (r ∷ rs) h a = ((λ e. let less : n < r.site.hit = a.0 e in omega (arith, less, h)), after_less p m n rs h a.1)

acts_if : (b : Bool) (p k : ℕ) (r : Rig) → (r.site.point == p) ≡ b → (r.site.point ≡ p → cond (is_onward r.kind) (nat_le r.site.hit k) (r.site.hit == k) ≡ false) → acts_at p k r ≡ false
acts_if false p k r e h = ap (λ b. b && cond (is_onward r.kind) (nat_le r.site.hit k) (r.site.hit == k)) e
acts_if true p k r e h =
    let same : r.site.point ≡ p = grind (arith, nat_tests, e) in
    ap (λ b. b && cond (is_onward r.kind) (nat_le r.site.hit k) (r.site.hit == k)) e ∙ h same

either : (b x y : Bool) → x ≡ false → y ≡ false → cond b x y ≡ false
either true x y e f = e
either false x y e f = f

-- before its hit, a rigged hit doesn't act
acts_later : (p k : ℕ) (r : Rig) → (r.site.point ≡ p → k < r.site.hit) → acts_at p k r ≡ false
acts_later p k r h =
    acts_if (r.site.point == p) p k r refl
    (λ same.
    let less : k < r.site.hit = h same in
    let le : nat_le r.site.hit k ≡ false = grind (arith, nat_tests, less) in
    let eq : (r.site.hit == k) ≡ false = grind (arith, nat_tests, less) in
    either (is_onward r.kind) (nat_le r.site.hit k) (r.site.hit == k) le eq)

-- A fault that isn't sticky doesn't act after its hit.
acts_past : (p k : ℕ) (r : Rig) → is_onward r.kind ≡ false → r.site.hit < k → acts_at p k r ≡ false
acts_past p k r once less =
    acts_if (r.site.point == p) p k r refl
    (λ same. let eq : (r.site.hit == k) ≡ false = grind (arith, nat_tests, less) in ap (λ b. cond b (nat_le r.site.hit k) (r.site.hit == k)) once ∙ eq)

acts_here : (p k : ℕ) (r : Rig) → r.site.point ≡ p → cond (is_onward r.kind) (nat_le r.site.hit k) (r.site.hit == k) ≡ true → acts_at p k r ≡ true
acts_here p k r same e =
    let here : (r.site.point == p) ≡ true = grind (arith, nat_tests, same) in
    ap (λ b. b && cond (is_onward r.kind) (nat_le r.site.hit k) (r.site.hit == k)) here ∙ e

-- before the hits of p, nothing is done there
nothing_at : (p k : ℕ) (rs : List Rig) → ComeAfter p k rs → rigged_task rs p k ≡ task.Off
nothing_at p k [] a = refl
nothing_at p k (r ∷ rs) a = ap (λ b. first_of b r rs p k) (acts_later p k r a.0) ∙ nothing_at p k rs a.1

-- a rigged hit that no longer acts might as well not be there
tasks_rest : (p n : ℕ) (r : Rig) (rs : List Rig) (xs : List ℕ) → ((k : ℕ) → n < k → acts_at p k r ≡ false) → tasks (r ∷ rs) p n xs ≡ tasks rs p n xs
tasks_rest p n r rs [] h = refl
tasks_rest p n r rs (x ∷ xs) h =
    ap (λ b. (first_of b r rs p (n + 1), x) ∷ tasks (r ∷ rs) p (n + 1) xs) (h (n + 1) (omega arith))
    ∙ ap (λ l. (rigged_task rs p (n + 1), x) ∷ l) (tasks_rest p (n + 1) r rs xs (λ k less. h k (omega (arith, less))))

-- without rigged hits nothing is done
idle_tasks : (word : ℕ → ℕ) (p n : ℕ) (xs : List ℕ) → done word [] xs ≡ tasks [] p n xs
idle_tasks word p n [] = refl
idle_tasks word p n (x ∷ xs) = ap (λ l. (task.Off, x) ∷ l) (idle_tasks word p (n + 1) xs)

-- what a chain does is what is rigged after n hits
abbrev pub Does : (ℕ → ℕ) → List Term → List Rig → ℕ → ℕ → Type 0
Does word c rigs p n = (xs : List ℕ) → done word c xs ≡ tasks rigs p n xs

-- a term of count 1 acts, and then the rest does
once_does : (word : ℕ → ℕ) (p n : ℕ) (r : Rig) (rs : List Rig) (k : Task) (c : List Term) → term_of r.kind ≡ full (Some 1) k → is_onward r.kind ≡ false
    → r.site.point ≡ p → r.site.hit ≡ n + 1 → Does word c rs p r.site.hit → Does word (full (Some 1) k ∷ c) (r ∷ rs) p n
once_does word p n r rs k c is once same here rest [] = refl
once_does word p n r rs k c is once same here rest (x ∷ xs) =
    let at : cond (is_onward r.kind) (nat_le r.site.hit (n + 1)) (r.site.hit == n + 1) ≡ true =
    ap (λ b. cond b (nat_le r.site.hit (n + 1)) (r.site.hit == n + 1)) once ∙ (let eq : (r.site.hit == n + 1) ≡ true = grind (arith, nat_tests, here) in eq)
    in
    let task_is : rigged_task (r ∷ rs) p (n + 1) ≡ k = ap (λ b. first_of b r rs p (n + 1)) (acts_here p (n + 1) r same at) ∙ ap (λ (t : Term). t.task) is in
    ap (λ l. (k, x) ∷ l) ((without word (full (Some 0) k) c refl).at xs ∙ rest xs ∙ ap (λ m. tasks rs p m xs) here ∙ sym (tasks_rest p (n + 1) r rs xs (λ j less. acts_past p j r once (omega (arith, less, here)))))
    ∙ ap (λ t. (t, x) ∷ tasks (r ∷ rs) p (n + 1) xs) (sym task_is)

-- a term without a count acts at each hit
onward_does : (word : ℕ → ℕ) (p n : ℕ) (s : Site) (text : Option (List ℕ)) (rs : List Rig) (c : List Term) → s.point ≡ p → s.hit ≤ n + 1
    → Does word (full None (task.Return text) ∷ c) (rig s (OnwardReturn text) ∷ rs) p n
onward_does word p n s text rs c same here [] = refl
onward_does word p n s text rs c same here (x ∷ xs) =
    let le : nat_le s.hit (n + 1) ≡ true = grind (arith, nat_tests, here) in
    let task_is : rigged_task (rig s (OnwardReturn text) ∷ rs) p (n + 1) ≡ task.Return text = ap (λ b. first_of b (rig s (OnwardReturn text)) rs p (n + 1)) (acts_here p (n + 1) (rig s (OnwardReturn text)) same le) in
    ap (λ l. (task.Return text, x) ∷ l) (onward_does word p (n + 1) s text rs c same (omega (arith, here)) xs)
    ∙ ap (λ t. (t, x) ∷ tasks (rig s (OnwardReturn text) ∷ rs) p (n + 1) xs) (sym task_is)

term_does : (word : ℕ → ℕ) (p n : ℕ) (s : Site) (kind : Kind) (rs : List Rig) (c : List Term) → s.point ≡ p → s.hit ≡ n + 1 → Does word c rs p s.hit → Does word (term_of kind ∷ c) (rig s kind ∷ rs) p n
term_does word p n s (OnceReturn text) rs c same here rest = once_does word p n (rig s (OnceReturn text)) rs (task.Return text) c refl refl same here rest
term_does word p n s (OnwardReturn text) rs c same here rest = onward_does word p n s text rs c same (omega (arith, here))
term_does word p n s OncePanic rs c same here rest = once_does word p n (rig s OncePanic) rs (task.Panic None) c refl refl same here rest

-- so many hits in which nothing is done, and then the rigged one
offs_do : (word : ℕ → ℕ) (p m n : ℕ) (s : Site) (kind : Kind) (rs : List Rig) (c : List Term) → s.point ≡ p → s.hit ≡ n + m + 1 → ComeAfter p s.hit rs → Does word c rs p s.hit
    → Does word (full (Some m) task.Off ∷ term_of kind ∷ c) (rig s kind ∷ rs) p n
offs_do word p zero n s kind rs c same here after rest xs = (without word (full (Some 0) task.Off) (term_of kind ∷ c) refl).at xs ∙ term_does word p n s kind rs c same (omega (arith, here)) rest xs
offs_do word p (suc m) n s kind rs c same here after rest [] = refl
offs_do word p (suc m) n s kind rs c same here after rest (x ∷ xs) =
    let o = full (Some (suc m)) task.Off in
    let behind = term_of kind ∷ c in
    let busy : is_used (Some (suc m)) ≡ false = grind (arith, nat_tests) in
    let less : suc m - 1 ≡ m = omega arith in
    let none : rigged_task (rig s kind ∷ rs) p (n + 1) ≡ task.Off = nothing_at p (n + 1) (rig s kind ∷ rs) ((λ e. omega (arith, here)), after_less p (n + 1) s.hit rs (omega (arith, here)) after) in
    ap (λ b. from word xs (cond b (passed o (step word behind x)) (acts o behind x))) busy
    ∙ ap (λ k. (task.Off, x) ∷ done word (full (Some k) task.Off ∷ behind) xs) less
    ∙ ap (λ l. (task.Off, x) ∷ l) (offs_do word p m (n + 1) s kind rs c same (omega (arith, here)) after rest xs)
    ∙ ap (λ t. (t, x) ∷ tasks (rig s kind ∷ rs) p (n + 1) xs) (sym none)

front_case : (word : ℕ → ℕ) (m : ℕ) (b : Bool) (t : Term) (c : List Term) (xs : List ℕ) → (m == 0) ≡ b → done word ((cond b [] (full (Some m) task.Off ∷ []) ++ t ∷ []) ++ c) xs ≡ done word (full (Some m) task.Off ∷ t ∷ c) xs
front_case word m true t c xs e = sym ((without word (full (Some m) task.Off) (t ∷ c) e).at xs)
front_case word m false t c xs e = refl

follow : (p : ℕ) (s : Site) (rs : List Rig) → s.point ≡ p → AllByRecursion (λ t. IsBefore s t) (map (λ (r : Rig). r.site) rs) → ComeAfter p s.hit rs
follow p s [] same a = tt
follow p s (r ∷ rs) same a = ((λ e. elim a.0 [ inl h ↦ absurd (omega (arith, h, e, same)) | inr h ↦ h.1 ]), follow p s rs same a.1)

chain_case : (word : ℕ → ℕ) (p n : ℕ) (s : Site) (kind : Kind) (rs : List Rig) (b : Bool) → (s.point == p) ≡ b → AllByRecursion (λ t. IsBefore s t) (map (λ (r : Rig). r.site) rs) → ComeAfter p n (rig s kind ∷ rs)
    → ((m : ℕ) → ComeAfter p m rs → Does word (chain_from p m rs) rs p m) → Does word (chain_from p n (rig s kind ∷ rs)) (rig s kind ∷ rs) p n
chain_case word p n s kind rs false e before after rest xs =
    ap (λ b. done word (cond b (rigged n (rig s kind)) [] ++ chain_from p (cond b s.hit n) rs) xs) e ∙ rest n after.1 xs
    ∙ sym (tasks_rest p n (rig s kind) rs xs (λ k less. ap (λ b. b && cond (is_onward kind) (nat_le s.hit k) (s.hit == k)) e))
chain_case word p n s kind rs true e before after rest xs =
    let same : s.point ≡ p = grind (arith, nat_tests, e) in
    let later : n < s.hit = after.0 same in
    let follows = follow p s rs same before in
    let m = s.hit - n - 1 in
    let c = chain_from p s.hit rs in
    ap (λ b. done word (cond b (rigged n (rig s kind)) [] ++ chain_from p (cond b s.hit n) rs) xs) e
    ∙ front_case word m (m == 0) (term_of kind) c xs refl
    ∙ offs_do word p m n s kind rs c same (omega (arith, later)) follows (rest s.hit follows) xs

-- the chain of rigged hits does what is rigged
pub chain_does : (word : ℕ → ℕ) (p n : ℕ) (rs : List Rig) → AreInOrder (map (λ (r : Rig). r.site) rs) → ComeAfter p n rs → Does word (chain_from p n rs) rs p n
chain_does word p n [] o a = idle_tasks word p n
chain_does word p n (r ∷ rs) o a = chain_case word p n r.site r.kind rs (r.site.point == p) refl o.1 a (λ m after. chain_does word p m rs o.2 after)
