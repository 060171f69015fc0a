-- What holds of each of a list.
use Rattle.std.proofs.Common.{ℕ, zero, suc, ◌<◌, List, [], ◌∷◌, ◌++◌, map, length, get_or, take, arith}

pub data Each {A : Type 0} (P : A → Type 0) : List A → Type 0 where
  none : Each P []
  more : {x : A} {xs : List A} → P x → Each P xs → Each P (x ∷ xs)

pub each_more : {A : Type 0} {P : A → Type 0} {xs : List A} {x : A} → Each P xs → P x → Each P (xs ++ (x ∷ []))
each_more none q = more q none
each_more (more p r) q = more p (each_more r q)

pub each_at : {A : Type 0} {P : A → Type 0} (first : List A) (x : A) (rest : List A) → Each P (first ++ x ∷ rest) → P x
each_at [] x rest (more p r) = p
each_at (y ∷ ys) x rest (more p r) = each_at ys x rest r

pub each_map : {A B : Type 0} {P : A → Type 0} {Q : B → Type 0} (f : A → B) {xs : List A} → ((x : A) → P x → Q (f x)) → Each P xs → Each Q (map f xs)
each_map f h none = none
each_map f h (more p r) = more (h _ p) (each_map f h r)

pub each_follows : {A : Type 0} {P Q : A → Type 0} {xs : List A} → ((x : A) → P x → Q x) → Each P xs → Each Q xs
each_follows h none = none
each_follows h (more p r) = more (h _ p) (each_follows h r)

pub each_take : {A : Type 0} {P : A → Type 0} {xs : List A} (n : ℕ) → Each P xs → Each P (take n xs)
each_take zero r = none
each_take (suc n) none = none
each_take (suc n) (more p r) = more p (each_take n r)

pub each_get : {A : Type 0} {P : A → Type 0} {xs : List A} (i : ℕ) (d : A) → Each P xs → i < length xs → P (get_or xs i d)
each_get i d none h = absurd (omega arith)
each_get zero d (more p r) h = p
each_get (suc i) d (more p r) h = each_get i d r (omega arith)
