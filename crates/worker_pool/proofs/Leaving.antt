-- From active workers back to workers and lists of answers.
use Rattle.std.proofs.Common.{◌≡◌, ◌∙◌, ℕ, ◌+◌, ◌<◌, ◌≤◌, ◌^◌, Bool, true, List, [], ◌∷◌, All, Vec, Global, vec_len, count_by, map, length, get_or, sym, subst}
use Rattle.std.proofs.Common.{ap, refl, arith}
use Rattle.std.specs.List.{sum_by}
use Rattle.std.proofs.lemmas.List.{length-map}
use Rattle.std.proofs.lemmas.List.Sums.{sum_by-cons}
use Rattle.worker_pool.specs.declared.worker.Worker.{Worker}
use Rattle.worker_pool.specs.declared.active.ActiveWorker.{ActiveWorker}
use Rattle.worker_pool.specs.Workers.{worker_job, worker_performed, PerformsPart, SharesAll, SharesPart}
use Rattle.worker_pool.specs.inside.ActiveWorkers.{GoesOn, answers_of}
use Rattle.worker_pool.specs.Tickets.{IsStepOf, IsDealtRound, count_below}
use Rattle.worker_pool.proofs.Sharing.{once_of_all, once_of_part}
use Rattle.std.proofs.lemmas.List.Elements.{All-nil}
use Rattle.worker_pool.proofs.Places.{map_at, maps_same, count_all, count_below_all, performed_sum}
use Rattle.worker_pool.proofs.Rounds.{pick}

-- active workers that began with no answer
module _ {J A S T : Type 0} (setup : J → T) (answers : T → ℕ → A → Type 0) (begun ended : List (ActiveWorker J A S))
    (rest : All (λ (s : ActiveWorker J A S). s.answers.items ≡ []) begun)
    (on : (k : ℕ) (s : ActiveWorker J A S) → k < length begun → GoesOn setup answers (get_or begun k s) (get_or ended k s)) where
  pub stayed : (k : ℕ) (s : ActiveWorker J A S) → k < length begun → setup (get_or ended k s).worker.job ≡ setup (get_or begun k s).worker.job
  stayed k s lt = (on k s lt).stays

  pub all_right : (k : ℕ) (s : ActiveWorker J A S) → k < length begun → All (λ p. answers (setup (get_or begun k s).worker.job) p.0 p.1)
      (get_or ended k s).answers.items
  all_right k s lt = (on k s lt).right (subst (λ (xs : List (ℕ × A)). All (λ p. answers (setup (get_or begun k s).worker.job) p.0 p.1) xs) (sym (rest k s lt))
      (λ i d low. absurd (omega arith)))

  pub all_counted : (k : ℕ) (s : ActiveWorker J A S) → k < length begun → (get_or begun k s).worker.performed + vec_len (get_or ended k s).answers < 2 ^ 64
      → (get_or ended k s).worker.performed ≡ (get_or begun k s).worker.performed + vec_len (get_or ended k s).answers
  all_counted k s lt fits =
      let none : length (get_or begun k s).answers.items ≡ 0 = ap (λ (xs : List (ℕ × A)). length xs) (rest k s lt) in
      let many = (get_or ended k s).answers.ok.0 in
      let e : (get_or ended k s).worker.performed + length (get_or begun k s).answers.items ≡ (get_or begun k s).worker.performed + length
      (get_or ended k s).answers.items = (on k s lt).counted (omega arith) in
      omega arith

module _ {J A S T : Type 0} (setup : J → T) (workers : List (Worker J A S)) (begun ended : List (ActiveWorker J A S)) where
  abbrev worker_of : ActiveWorker J A S → Worker J A S
  worker_of s = s.worker

  pub setups_back : (back : List (Worker J A S)) → map worker_of begun ≡ workers → back ≡ map worker_of ended → length ended ≡ length begun
      → ((k : ℕ) (s : ActiveWorker J A S) → k < length begun → setup (get_or ended k s).worker.job ≡ setup (get_or begun k s).worker.job)
      → map (λ h. setup (worker_job h)) back ≡ map (λ h. setup (worker_job h)) workers
  setups_back back sat left len same =
      let len_s : length begun ≡ length workers = sym (length-map begun worker_of) ∙ ap length sat in
      let len_b : length back ≡ length ended = ap length left ∙ length-map ended worker_of in
      maps_same (λ h. setup (worker_job h)) (λ h. setup (worker_job h)) back workers (omega arith) (λ k x y within.
      let in_s : k < length begun = omega arith in
      let in_b : k < length back = omega arith in
      let d : ActiveWorker J A S = pick begun k in_s in
      let now : (get_or ended k d).worker ≡ get_or back k x = map_at worker_of ended back (sym left) k d x in_b in
      let was : (get_or begun k d).worker ≡ get_or workers k y = map_at worker_of begun workers sat k d y within in
      ap (λ (h : Worker J A S). setup (worker_job h)) (sym now) ∙ same k d in_s ∙ ap (λ (h : Worker J A S). setup (worker_job h)) was)

  module _ {L : Type 0} (items : L → List (ℕ × A)) (size : L → ℕ) (list_of : ActiveWorker J A S → L) (lists : List L) where
    pub right_back : (answers : T → ℕ → A → Type 0) → map worker_of begun ≡ workers → lists ≡ map list_of ended → length ended ≡ length begun
        → ((s : ActiveWorker J A S) → items (list_of s) ≡ s.answers.items)
        → ((k : ℕ) (s : ActiveWorker J A S) → k < length begun → All (λ p. answers (setup (get_or begun k s).worker.job) p.0 p.1) (get_or ended k s).answers.items)
        → (k : ℕ) (h : Worker J A S) (l : L) → k < length workers → All (λ p. answers (setup (worker_job (get_or workers k h))) p.0 p.1) (items (get_or lists k l))
    right_back answers sat left len items_is right k h l within =
        let len_s : length begun ≡ length workers = sym (length-map begun worker_of) ∙ ap length sat in
        let len_l : length lists ≡ length ended = ap length left ∙ length-map ended list_of in
        let in_s : k < length begun = omega arith in
        let in_l : k < length lists = omega arith in
        let d : ActiveWorker J A S = pick begun k in_s in
        let now : list_of (get_or ended k d) ≡ get_or lists k l = map_at list_of ended lists (sym left) k d l in_l in
        let was : (get_or begun k d).worker ≡ get_or workers k h = map_at worker_of begun workers sat k d h within in
        let is : (get_or ended k d).answers.items ≡ items (get_or lists k l) = sym (items_is (get_or ended k d)) ∙ ap items now in
        subst (λ (x : Worker J A S). All (λ p. answers (setup (worker_job x)) p.0 p.1) (items (get_or lists k l))) was
        (subst (λ (xs : List (ℕ × A)). All (λ p. answers (setup (get_or begun k d).worker.job) p.0 p.1) xs) is (right k d in_s))

    pub counted_back : (back : List (Worker J A S)) → map worker_of begun ≡ workers → back ≡ map worker_of ended → lists ≡ map list_of ended
        → length ended ≡ length begun
        → ((s : ActiveWorker J A S) → size (list_of s) ≡ vec_len s.answers)
        → ((k : ℕ) (s : ActiveWorker J A S) → k < length begun → (get_or begun k s).worker.performed + vec_len (get_or ended k s).answers < 2 ^ 64
        → (get_or ended k s).worker.performed ≡ (get_or begun k s).worker.performed + vec_len (get_or ended k s).answers)
        → (k : ℕ) (h : Worker J A S) (l : L) → k < length workers → worker_performed (get_or workers k h) + size (get_or lists k l) < 2 ^ 64
        → worker_performed (get_or back k h) ≡ worker_performed (get_or workers k h) + size (get_or lists k l)
    counted_back back sat left left' len size_is counted k h l within fits =
        let len_s : length begun ≡ length workers = sym (length-map begun worker_of) ∙ ap length sat in
        let len_b : length back ≡ length ended = ap length left ∙ length-map ended worker_of in
        let len_l : length lists ≡ length ended = ap length left' ∙ length-map ended list_of in
        let in_s : k < length begun = omega arith in
        let in_b : k < length back = omega arith in
        let in_l : k < length lists = omega arith in
        let d : ActiveWorker J A S = pick begun k in_s in
        let now : (get_or ended k d).worker.performed ≡ worker_performed (get_or back k h) =
        ap (λ (x : Worker J A S). x.performed) (map_at worker_of ended back (sym left) k d h in_b) in
        let was : (get_or begun k d).worker.performed ≡ worker_performed (get_or workers k h) =
        ap (λ (x : Worker J A S). x.performed) (map_at worker_of begun workers sat k d h within) in
        let is : vec_len (get_or ended k d).answers ≡ size (get_or lists k l) = sym (size_is (get_or ended k d))
        ∙ ap size (map_at list_of ended lists (sym left') k d l in_l) in
        let e : (get_or ended k d).worker.performed ≡ (get_or begun k d).worker.performed + vec_len (get_or ended k d).answers = counted k d in_s (omega arith) in
        omega arith

-- sums over the lists are sums over the active workers
sum_map : {X L : Type 0} (f : L → ℕ) (g : X → ℕ) (list_of : X → L) (xs : List X) → ((x : X) → f (list_of x) ≡ g x) → sum_by f (map list_of xs) ≡ sum_by g xs
sum_map f g list_of [] same = refl
sum_map f g list_of (x ∷ xs) same =
    let here : f (list_of x) ≡ g x = same x in
    omega (arith, sum_by-cons f (list_of x) (map list_of xs), sum_by-cons g x xs, here, sum_map f g list_of xs same)

pub sum_left : {X L : Type 0} (f : L → ℕ) (g : X → ℕ) (list_of : X → L) (xs : List X) (lists : List L) → lists ≡ map list_of xs
    → ((x : X) → f (list_of x) ≡ g x) → sum_by f lists ≡ sum_by g xs
sum_left f g list_of xs lists left same = ap (sum_by f) left ∙ sum_map f g list_of xs same

map_twice : {J A S : Type 0} (es : List (ActiveWorker J A S)) → map (λ (v : Vec (ℕ × A) Global). v.items) (map (λ (s : ActiveWorker J A S). s.answers) es) ≡ answers_of es
map_twice [] = refl
map_twice (e ∷ es) = ap (λ ls. e.answers.items ∷ ls) (map_twice es)

-- the lists that the active workers leave are their answers
lists_are : {J A S : Type 0} (es : List (ActiveWorker J A S)) (ls : List (Vec (ℕ × A) Global)) → ls ≡ map (λ (s : ActiveWorker J A S). s.answers) es
    → map (λ (v : Vec (ℕ × A) Global). v.items) ls ≡ answers_of es
lists_are {J = J} {A = A} {S = S} es ls left = ap (map (λ (v : Vec (ℕ × A) Global). v.items)) left ∙ map_twice es

pub lists_back : {J A S : Type 0} (n count : ℕ) (es : List (ActiveWorker J A S)) (ls : List (Vec (ℕ × A) Global)) → ls ≡ map (λ (s : ActiveWorker J A S). s.answers) es
    → SharesAll n count (answers_of es)
    → SharesAll n count (map (λ (v : Vec (ℕ × A) Global). v.items) ls)
lists_back {A = A} n count es ls left shared = subst (λ (xs : List (List (ℕ × A))). SharesAll n count xs) (sym (lists_are es ls left)) shared

pub once_back : {J A S : Type 0} (n count : ℕ) (es : List (ActiveWorker J A S)) (ls : List (Vec (ℕ × A) Global)) → ls ≡ map (λ (s : ActiveWorker J A S). s.answers) es
    → length es ≡ n → SharesAll n count (answers_of es)
    → (test : ℕ → Bool) → sum_by (λ (v : Vec (ℕ × A) Global). count_by (λ p. test p.0) v.items) ls ≡ count_below test count
once_back {J = J} {A = A} {S = S} n count es ls left len shared test =
    let given : ActiveWorker J A S → List (ℕ × A) = λ s. s.answers.items in
    sum_left (λ (v : Vec (ℕ × A) Global). count_by (λ p. test p.0) v.items) (λ (s : ActiveWorker J A S). count_by (λ p. test p.0) s.answers.items)
    (λ (s : ActiveWorker J A S). s.answers) es ls left (λ s. refl)
    ∙ sym (sum_left (λ (l : List (ℕ × A)). count_by (λ p. test p.0) l) (λ (s : ActiveWorker J A S). count_by (λ p. test p.0) s.answers.items) given es
    (answers_of es) refl (λ s. refl))
    ∙ once_of_all n count (answers_of es) (length-map es given ∙ len) shared test

-- how long the lists are together, by the test that all pass
pub lengths_counted : {A : Type 0} (lists : List (List (ℕ × A))) → sum_by (λ (l : List (ℕ × A)). count_by (λ p. true) l) lists ≡ sum_by
    (λ (l : List (ℕ × A)). length l) lists
lengths_counted {A = A} [] = refl
lengths_counted {A = A} (l ∷ ls) =
    omega (
      arith,
      sum_by-cons (λ (x : List (ℕ × A)). count_by (λ p. true) x) l ls,
      sum_by-cons (λ (x : List (ℕ × A)). length x) l ls,
      count_all l,
      lengths_counted ls,
    )

pub lists_most : {A : Type 0} (lists : List (List (ℕ × A))) (count : ℕ) → ((test : ℕ → Bool)
    → sum_by (λ (l : List (ℕ × A)). count_by (λ p. test p.0) l) lists ≤ count_below test count) → sum_by (λ (l : List (ℕ × A)). length l) lists ≤ count
lists_most lists count once = (let e = once (λ n. true) in omega (arith, lengths_counted lists, count_below_all count))

module _ {J A S T : Type 0} (setup : J → T) (workers : List (Worker J A S)) (begun ended : List (ActiveWorker J A S)) where
  abbrev given : ActiveWorker J A S → List (ℕ × A)
  given s = s.answers.items

  abbrev worker_at : ActiveWorker J A S → Worker J A S
  worker_at s = s.worker

  -- a refused run
  pub performs_part : (answers : T → ℕ → A → Type 0) (back : List (Worker J A S)) (count : ℕ) → map worker_at begun ≡ workers → back ≡ map worker_at ended
      → length ended ≡ length begun
      → ((k : ℕ) (s : ActiveWorker J A S) → k < length begun → All (λ p. answers (setup (get_or begun k s).worker.job) p.0 p.1) (get_or ended k s).answers.items)
      → ((k : ℕ) (s : ActiveWorker J A S) → k < length begun → (get_or begun k s).worker.performed + vec_len (get_or ended k s).answers < 2 ^ 64
      → (get_or ended k s).worker.performed ≡ (get_or begun k s).worker.performed + vec_len (get_or ended k s).answers)
      → SharesPart (length workers) count (answers_of ended)
      → PerformsPart setup answers workers back count
  performs_part answers back count sat left len right counted shared =
      let lists : List (List (ℕ × A)) = answers_of ended in
      let len_s : length begun ≡ length workers = sym (length-map begun worker_at) ∙ ap length sat in
      let len_b : length back ≡ length ended = ap length left ∙ length-map ended worker_at in
      let len_l : length lists ≡ length ended = length-map ended given in
      let once : (test : ℕ → Bool) → sum_by (λ (l : List (ℕ × A)). count_by (λ p. test p.0) l) lists ≤ count_below test count =
      once_of_part (length workers) count lists (omega arith) shared in
      let few : sum_by (λ (l : List (ℕ × A)). length l) lists ≤ count = lists_most lists count once in
      record {
        lists = lists;
        many = len_l ∙ len ∙ len_s;
        right = right_back setup workers begun ended (λ (l : List (ℕ × A)). l) (λ (l : List (ℕ × A)). length l) given lists answers sat refl len
            (λ s. refl) right;
        shared = shared;
        once = once;
        most = few;
        counted = counted_back setup workers begun ended (λ (l : List (ℕ × A)). l) (λ (l : List (ℕ × A)). length l) given lists back sat left refl len
            (λ s. sym s.answers.ok.0) counted;
        performed = λ fits. performed_sum worker_performed (λ (l : List (ℕ × A)). length l) (2 ^ 64) workers back lists (omega arith) (omega arith)
            (counted_back setup workers begun ended (λ (l : List (ℕ × A)). l) (λ (l : List (ℕ × A)). length l) given lists back sat left refl len
            (λ s. sym s.answers.ok.0) counted) (omega arith);
      }

zeros : {X : Type 0} (xs : List X) → sum_by (λ (x : X). 0) xs ≡ 0
zeros [] = refl
zeros {X = X} (x ∷ xs) = omega (arith, sum_by-cons (λ (y : X). 0) x xs, zeros xs)

module _ {J A S T : Type 0} (setup : J → T) (answers : T → ℕ → A → Type 0) (workers : List (Worker J A S)) (count : ℕ) where
  abbrev none_of : Worker J A S → List (ℕ × A)
  none_of h = []

  -- a run that never began
  pub performs_none : PerformsPart setup answers workers workers count
  performs_none =
      let lists : List (List (ℕ × A)) = map none_of workers in
      let none : (f : List (ℕ × A) → ℕ) → f [] ≡ 0 → sum_by f lists ≡ 0 = λ f empty.
      sum_left f (λ (h : Worker J A S). 0) none_of workers lists refl (λ h. empty) ∙ zeros workers in
      let len : length lists ≡ length workers = length-map workers none_of in
      record {
        lists = lists;
        many = len;
        right = λ k h l lt. (let in_l : k < length lists = omega arith in subst
            (λ (xs : List (ℕ × A)). All (λ p. answers (setup (worker_job (get_or workers k h))) p.0 p.1) xs) (map_at none_of workers lists refl k h l in_l)
            (λ i d low. absurd (omega arith)));
        shared = record {
          steps = [];
          of_workers = All-nil (IsStepOf (length workers));
          round = All-nil (IsDealtRound (length workers));
          dealt = λ test. omega arith;
          taken = λ test k lt. (let e = ap (λ (xs : List (ℕ × A)). count_by (λ p. test p.0) xs)
              (map_at none_of workers lists refl k (pick workers k lt) [] (omega arith)) in omega arith);
        };
        once = λ test. (let e = none (λ (l : List (ℕ × A)). count_by (λ p. test p.0) l) refl in omega arith);
        counted = λ k h l lt fits. (let e = ap (λ (xs : List (ℕ × A)). length xs) (map_at none_of workers lists refl k h l (omega arith)) in omega arith);
        most = (let e = none (λ (l : List (ℕ × A)). length l) refl in omega arith);
        performed = λ fits. (let e = none (λ (l : List (ℕ × A)). length l) refl in omega arith);
      }
