-- Laws of `tab`, a list by what stands at each place; and the array that `array::from_fn` makes.
use Rattle.std.proofs.Common.{◌≡◌, ℕ, zero, suc, ◌+◌, ◌<◌, List, [], ◌∷◌, ◌++◌, length, get_or, sym, refl, ap, ap₂, ◌∙◌, subst, ⊎_elim, le_of_suc-le-suc, not-suc-le-zero, eq-or-lt_of_le, zero-add, add-zero, add-one, arith, length-append}
use lib.ListN.{get_or-append}
use lib.Seq.{get_or_at, ext_get_or}
use Rattle.std.specs.Fn.{Mut, Called}
use Rattle.std.specs.Array.{IsFromFnResult, IsFromFnResultFrom}
use Rattle.rfc7693.specs.Rfc7693.{tab}

pub tab-ext : (f g : ℕ → ℕ) (n : ℕ) → ((k : ℕ) → k < n → f k ≡ g k) → tab n f ≡ tab n g
unfolding tab
tab-ext f g zero h = refl
tab-ext f g (suc n) h =
    ap₂ (λ (p : List ℕ) (x : ℕ). p ++ (x ∷ [])) (tab-ext f g n (λ k lt. h k (omega arith))) (h n (omega arith))

pub length-tab : (f : ℕ → ℕ) (n : ℕ) → length (tab n f) ≡ n
unfolding tab
length-tab f zero = refl
length-tab f (suc n) = length-append (tab n f) (f n ∷ []) ∙ ap (λ (k : ℕ). k + 1) (length-tab f n) ∙ add-one n

pub getD-tab : (f : ℕ → ℕ) (n i : ℕ) → i < n → get_or (tab n f) i 0 ≡ f i
unfolding tab
getD-tab f zero i h = absurd (not-suc-le-zero h)
getD-tab f (suc n) i h =
    ⊎_elim
    (λ e. subst (λ (k : ℕ). get_or (tab n f ++ (f n ∷ [])) k 0 ≡ f k) (sym e) (get_or_at (tab n f) (f n) [] 0 n (length-tab f n)))
    (λ lt. get_or-append (tab n f) (f n ∷ []) 0 i (subst (λ (k : ℕ). i < k) (sym (length-tab f n)) lt) ∙ getD-tab f n i lt)
    (eq-or-lt_of_le (le_of_suc-le-suc h))

-- a list whose elements are those of a table
pub tab-is : (f : ℕ → ℕ) (a : List ℕ) (n : ℕ) → length a ≡ n → ((i : ℕ) → i < n → get_or a i 0 ≡ f i) → a ≡ tab n f
tab-is f a n l h =
    ext_get_or 0 a (tab n f) (l ∙ sym (length-tab f n)) (λ i lt. let below : i < n = omega arith in h i below ∙ sym (getD-tab f n i below))

-- a list is its own table
pub tab-self : (l : List ℕ) (n : ℕ) → length l ≡ n → tab n (λ k. get_or l k 0) ≡ l
tab-self l n e = sym (tab-is (λ k. get_or l k 0) l n e (λ i lt. refl))

-- what `from_fn` makes of a closure that no call changes
module _ {F : Type 0} (g : Mut F (ℕ × Unit {0}) ℕ) (f : F) (at : ℕ → ℕ) (call : (i y : ℕ) (f' : F) → Called g f (i, tt) y f' → (y ≡ at i) × (f' ≡ f)) where
  made-from : (p : F) (ys : List ℕ) (i n : ℕ) → p ≡ f → IsFromFnResultFrom g p ys i n → (j : ℕ) → j < n → get_or ys (i + j) 0 ≡ at (i + j)
  made-from p ys i zero e t j lt = absurd (not-suc-le-zero lt)
  made-from p ys i (suc n) e t zero lt =
      let told = call i t.1 t.0 (subst (λ (x : F). Called g x (i, tt) t.1 t.0) e t.3) in
      rw add-zero (t.2.1 0 ∙ told.0)
  made-from p ys i (suc n) e t (suc j) lt =
      let told = call i t.1 t.0 (subst (λ (x : F). Called g x (i, tt) t.1 t.0) e t.3) in
      let next : i + 1 + j ≡ i + suc j = omega arith in
      subst (λ (k : ℕ). get_or ys k 0 ≡ at k) next (made-from t.0 ys (i + 1) n told.1 t.4 j (le_of_suc-le-suc lt))

  pub made : (ys : List ℕ) (n : ℕ) → IsFromFnResult g f ys n → ys ≡ tab n at
  made ys n r = tab-is at ys n r.long (λ i lt. simp zero-add at (made-from f ys 0 n refl r.each i lt))
