-- A fact of each element, and of each two in order, where lists are joined or mapped, and an element is replaced, is taken out
-- or comes last; and both facts of each two in one. By recursion on the list.
-- Assumes nothing.
use mathlib.Core.List.{List, [], ◌∷◌, ◌++◌, map}
use Rattle.book.specs.Each.{Each, EachTwo}

module _ {A : Type 0} (P : A → Type 0) where
  pub each_append : (l m : List A) → Each P l → Each P m → Each P (l ++ m)
  each_append [] m p q = q
  each_append (x ∷ l) m p q = (p.0, each_append l m p.1 q)

  pub each_left : (l m : List A) → Each P (l ++ m) → Each P l
  each_left [] m p = tt
  each_left (x ∷ l) m p = (p.0, each_left l m p.1)

  pub each_right : (l m : List A) → Each P (l ++ m) → Each P m
  each_right [] m p = p
  each_right (x ∷ l) m p = each_right l m p.1

  pub each_of_every : ((x : A) → P x) → (l : List A) → Each P l
  each_of_every f [] = tt
  each_of_every f (x ∷ l) = (f x, each_of_every f l)

pub each_implies : {A : Type 0} (P Q : A → Type 0) → ((x : A) → P x → Q x) → (l : List A) → Each P l → Each Q l
each_implies P Q f [] p = tt
each_implies P Q f (x ∷ l) p = (f x p.0, each_implies P Q f l p.1)

-- from a list to its image
module _ {A B : Type 0} (f : A → B) where
  pub each_map : (P : A → Type 0) (Q : B → Type 0) → ((x : A) → P x → Q (f x)) → (l : List A) → Each P l → Each Q (map f l)
  each_map P Q g [] p = tt
  each_map P Q g (x ∷ l) p = (g x p.0, each_map P Q g l p.1)

  pub each_two_map : (R : A → A → Type 0) (S : B → B → Type 0) → ((x z : A) → R x z → S (f x) (f z))
      → (l : List A) → EachTwo R l → EachTwo S (map f l)
  each_two_map R S g [] r = tt
  each_two_map R S g (x ∷ l) r = (each_map (R x) (S (f x)) (g x) l r.0, each_two_map R S g l r.1)

module _ {A : Type 0} (R : A → A → Type 0) where
  pub each_two_replace : (l : List A) (a b : A) (m : List A) → ((x : A) → R a x → R b x) → Each (λ x. R x a → R x b) l
      → EachTwo R (l ++ a ∷ m) → EachTwo R (l ++ b ∷ m)
  each_two_replace [] a b m f g p = (each_implies (R a) (R b) f m p.0, p.1)
  each_two_replace (x ∷ l) a b m f g p =
      let q = each_right (R x) l (a ∷ m) p.0 in (
        each_append (R x) l (b ∷ m) (each_left (R x) l (a ∷ m) p.0) (g.0 q.0, q.1),
        each_two_replace l a b m f g.1 p.1,
      )

  pub each_two_without : (l : List A) (a : A) (m : List A) → EachTwo R (l ++ a ∷ m) → EachTwo R (l ++ m)
  each_two_without [] a m p = p.1
  each_two_without (x ∷ l) a m p =
      let q = each_right (R x) l (a ∷ m) p.0 in
      (each_append (R x) l m (each_left (R x) l (a ∷ m) p.0) q.1, each_two_without l a m p.1)

  pub each_two_last : (l : List A) (a : A) → Each (λ x. R x a) l → EachTwo R l → EachTwo R (l ++ a ∷ [])
  each_two_last [] a f p = (tt, tt)
  each_two_last (x ∷ l) a f p = (each_append (R x) l (a ∷ []) p.0 (f.0, tt), each_two_last l a f.1 p.1)

  pub each_two_later : (l : List A) (a : A) (m : List A) → EachTwo R (l ++ a ∷ m) → Each (R a) m
  each_two_later [] a m p = p.0
  each_two_later (x ∷ l) a m p = each_two_later l a m p.1

-- a fact of each two, and with it the fact of each that both have
module _ {A : Type 0} (P : A → Type 0) (R : A → A → Type 0) where
  abbrev pub AndOfEach : A → A → Type 0
  AndOfEach x z = P x × P z × R x z

  each_and_first : (x : A) → P x → (l : List A) → Each P l → Each (R x) l → Each (AndOfEach x) l
  each_and_first x p [] ps rs = tt
  each_and_first x p (z ∷ l) ps rs = ((p, ps.0, rs.0), each_and_first x p l ps.1 rs.1)

  pub each_two_and_each : (l : List A) → Each P l → EachTwo R l → EachTwo AndOfEach l
  each_two_and_each [] ps rs = tt
  each_two_and_each (x ∷ l) ps rs = (each_and_first x ps.0 l ps.1 rs.0, each_two_and_each l ps.1 rs.1)
