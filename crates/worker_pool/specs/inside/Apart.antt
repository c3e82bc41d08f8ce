-- Calls of a function for each element of a slice, each with a `&mut` to that element.
use Rattle.std.specs.Prelude.{◌≡◌, ℕ, ◌<◌, List, All, length, slice_index_or}
use denote.Ref.{MutBor}
use denote.Param.Members.{Shared}

module _ {F T : Type 0} (g : Shared F (MutBor T × Unit {0}) ((Unit {0}) × (MutBor T × Unit {0}))) (f : F) where
  -- f may be called with a `&mut` to x.
  abbrev pub Accepts : T → Type 0
  Accepts x = (p : MutBor T) → p.now ≡ x → g.pre f (p, tt)

  -- A call of f with a `&mut` to x may leave y there.
  pub record Changes (x y : T) : Type 0 where
    pub argument : MutBor T
    pub argument_is : argument.now ≡ x
    pub after_call : MutBor T
    pub call : g.post f (argument, tt) (tt, (after_call, tt))
    pub left : after_call.now ≡ y

  abbrev pub AcceptsAll : List T → Type 0
  AcceptsAll xs = All Accepts xs

  -- Each element of ys is what a call of f left at that place of xs.
  unfoldable pub ChangesAll : List T → List T → Type 0
  ChangesAll xs ys = (k : ℕ) (d : T) → k < length xs → (slice_index_or ys k d ≡ slice_index_or ys k d) × Changes (slice_index_or xs k d) (slice_index_or ys k d)
