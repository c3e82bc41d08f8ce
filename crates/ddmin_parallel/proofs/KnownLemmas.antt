use Rattle.std.proofs.Common.{◌≡◌, ℕ, Bool, true, false, List, [], ◌∷◌, refl, sym, ◌∙◌, ap, cond, Option, Some}
use Rattle.std.specs.Prelude.{Vec}
use Rattle.std.specs.Global.{Global}
use Rattle.std.specs.declared.cmp.Ordering.{Ordering}
use Rattle.std.specs.declared.cmp.Ordering.TheVariants.{Less, Equal, Greater}
use Rattle.std.specs.Ordering.{is_eq, match_ordering}
use Rattle.std.proofs.lemmas.Cmp.{nat_list_cmp_total}
use Rattle.std.specs.FinMap.{find, get, insert, from_entries, get-from_entries, get-insert, same_map}
use Rattle.std.specs.BTreeMap.{insert_entry, is_at}
use Rattle.std.specs.Map.{lookup}
use Rattle.ddmin_parallel.specs.inside.Entries.{plain, AreKeysPacked}
use Rattle.ddmin_parallel.specs.Runs.{faults_of}
use Rattle.ddmin_parallel.specs.inside.Packing.{runs_of}
use Rattle.ddmin_parallel.proofs.RunLemmas.{same_runs, is_packed, has_faults}
use Rattle.ddmin_parallel.proofs.SetLemmas.{set_cmp, runs_cmp, exact_sets, exact_runs, is_equal, runs_tie-Decides, runs_tie}

abbrev pub Entries : Type 0
Entries = List (Vec (ℕ × ℕ) Global × Bool)

abbrev pub key_cmp : Vec (ℕ × ℕ) Global → Vec (ℕ × ℕ) Global → Ordering
key_cmp x y = runs_cmp x.items y.items

find_plain : (es : Entries) (s : List ℕ) → AreKeysPacked es
    → find set_cmp s (plain es) ≡ lookup (is_at (λ (v : Vec (ℕ × ℕ) Global). runs_cmp (runs_of s) v.items)) es
find_plain [] s packed = refl
find_plain (e ∷ es) s packed =
    ap (λ b. cond b (Some e.1) (find set_cmp s (plain es))) (sym (runs_tie s e.0.items packed.0))
    ∙ ap (cond (is_eq (runs_cmp (runs_of s) e.0.items)) (Some e.1)) (find_plain es s packed.1)

pub get_plain : (es : Entries) (s : List ℕ) → AreKeysPacked es
    → get (from_entries {R = set_cmp} (plain es)) s ≡ lookup (is_at (λ (v : Vec (ℕ × ℕ) Global). runs_cmp (runs_of s) v.items)) es
get_plain es s packed = get-from_entries nat_list_cmp_total (plain es) s ∙ find_plain es s packed

tied_sets : (s t : List ℕ) → is_eq (set_cmp s t) ≡ true → s ≡ t
tied_sets s t is = exact_sets s t (is_equal (set_cmp s t) is)

put_plain : (es : Entries) (k : Vec (ℕ × ℕ) Global) (v : Bool) (s : List ℕ) → AreKeysPacked es → runs_of (faults_of k.items) ≡ k.items
    → find set_cmp s (plain (insert_entry key_cmp es k v)) ≡ cond (is_eq (set_cmp s (faults_of k.items))) (Some v) (find set_cmp s (plain es))
put_plain [] k v s packed key = refl
put_plain (e ∷ es) k v s packed key = at (put_plain es k v s packed.1 key) (runs_cmp k.items e.0.items) refl
  where
    rest : Entries
    rest = insert_entry key_cmp es k v

    new : Bool
    new = is_eq (set_cmp s (faults_of k.items))

    old : Bool
    old = is_eq (set_cmp s (faults_of e.0.items))

    tied : (b : Bool) (x : Option Bool) → cond b (Some v) x ≡ cond b (Some v) (cond b (Some e.1) x)
    tied true x = refl
    tied false x = refl

    apart : (b d : Bool) (x : Option Bool) → old ≡ b → new ≡ d → runs_cmp k.items e.0.items ≡ Greater
        → cond b (Some e.1) (cond d (Some v) x) ≡ cond d (Some v) (cond b (Some e.1) x)
    apart true true x p r greater =
        let one : faults_of k.items ≡ faults_of e.0.items = sym (tied_sets s (faults_of k.items) r) ∙ tied_sets s (faults_of e.0.items) p in
        let equal : is_eq (runs_cmp k.items e.0.items) ≡ true = (runs_tie-Decides k.items e.0.items).1 (same_runs k.items e.0.items key packed.0 one) in
        let no : is_eq Greater ≡ true = ap is_eq (sym greater) ∙ equal in
        cc
    apart true false x p r greater = refl
    apart false true x p r greater = refl
    apart false false x p r greater = refl

    at : find set_cmp s (plain rest) ≡ cond new (Some v) (find set_cmp s (plain es)) → (r : Ordering) → runs_cmp k.items e.0.items ≡ r
        → find set_cmp s (plain (match_ordering r ((k, v) ∷ e ∷ es) ((e.0, v) ∷ es) (e ∷ rest)))
        ≡ cond new (Some v) (cond old (Some e.1) (find set_cmp s (plain es)))
    at ih Less is = refl
    at ih Equal is =
        let one : new ≡ old = ap (λ rs. is_eq (set_cmp s (faults_of rs))) (exact_runs k.items e.0.items is) in
        tied old (find set_cmp s (plain es)) ∙ ap (λ b. cond b (Some v) (cond old (Some e.1) (find set_cmp s (plain es)))) (sym one)
    at ih Greater is = ap (cond old (Some e.1)) ih ∙ apart _ _ (find set_cmp s (plain es)) refl refl is

-- an entry at a set's runs is one at the set
pub insert_plain : (es : Entries) (k : Vec (ℕ × ℕ) Global) (v : Bool) (s : List ℕ) → AreKeysPacked es → k.items ≡ runs_of s
    → from_entries {R = set_cmp} (plain (insert_entry key_cmp es k v)) ≡ insert (from_entries (plain es)) s v
insert_plain es k v s packed key = same_map nat_list_cmp_total exact_sets _ _ (λ q.
    get-from_entries nat_list_cmp_total _ q ∙ put_plain es k v q packed (is_packed k.items s key)
    ∙ ap (λ t. cond (is_eq (set_cmp q t)) (Some v) (find set_cmp q (plain es))) (has_faults k.items s key)
    ∙ sym (get-insert nat_list_cmp_total (from_entries (plain es)) s v q
    ∙ ap (cond (is_eq (set_cmp q s)) (Some v)) (get-from_entries nat_list_cmp_total (plain es) q)))

pub insert_packed : (es : Entries) (k : Vec (ℕ × ℕ) Global) (v : Bool) (s : List ℕ) → AreKeysPacked es → k.items ≡ runs_of s
    → AreKeysPacked (insert_entry key_cmp es k v)
insert_packed [] k v s packed key = (is_packed k.items s key, tt)
insert_packed (e ∷ es) k v s packed key = at (runs_cmp k.items e.0.items) (insert_packed es k v s packed.1 key)
  where
    at : (r : Ordering) → AreKeysPacked (insert_entry key_cmp es k v)
        → AreKeysPacked (match_ordering r ((k, v) ∷ e ∷ es) ((e.0, v) ∷ es) (e ∷ insert_entry key_cmp es k v))
    at Less rest = (is_packed k.items s key, packed)
    at Equal rest = packed
    at Greater rest = (packed.0, rest)
