-- The levels of the code, and the frames that they stand for.
use Rattle.std.specs.Prelude.{◌≡◌, ◌<◌, ◌≤◌, ℕ, ◌+◌, ◌-◌, List, [], ◌∷◌, ◌++◌, length, map, reverse, take, get_or, refl}
use Rattle.std.proofs.Common.{sym, ◌∙◌, ap, subst, arith, set, length-set}
use Rattle.std.proofs.lemmas.List.{reverse-append, map-append, length-reverse, length-map, length-take-le, take_more, take_more_set, take-set, take-append-le}
use Rattle.item_tree.specs.Datum.{Datum}
use Rattle.json_text.specs.inside.Build as b
use Rattle.json_text.specs.inside.Fits.{FrameFits, FramesFit}
use Rattle.item_reader.specs.declared.levels.Level.{Level}
use Rattle.item_reader.specs.Levels.{frame_of, frames_of, value_of, with_first, Opens, OnLast, ClosesTo, Closes}

pushed : (xs : List Level) (l : Level) → frames_of (xs ++ l ∷ []) ≡ frame_of l ∷ frames_of xs
unfolding frames_of
pushed xs l = ap reverse (map-append frame_of xs (l ∷ [])) ∙ reverse-append (map frame_of xs) (frame_of l ∷ [])

frames_length : (xs : List Level) → length (frames_of xs) ≡ length xs
unfolding frames_of
frames_length xs = simp (length-reverse, length-map)

pub so_many : (n : ℕ) (xs : List Level) → n ≤ length xs → length (frames_of (take n xs)) ≡ n
so_many n xs h = frames_length (take n xs) ∙ length-take-le n xs h

first_at : (xs : List Level) (n : ℕ) (d : Level) → n < length xs
    → frames_of (take (n + 1) xs) ≡ frame_of (get_or xs n d) ∷ frames_of (take n xs)
first_at xs n d h = ap frames_of (take_more xs n d h) ∙ pushed (take n xs) (get_or xs n d)

first_set : (xs : List Level) (n : ℕ) (l : Level) → n < length xs
    → frames_of (take (n + 1) (set xs n l)) ≡ frame_of l ∷ frames_of (take n xs)
first_set xs n l h = ap frames_of (take_more_set xs n l h) ∙ pushed (take n xs) l

pub changed : (xs : List Level) (n : ℕ) (l d : Level) (g : b.Frame → b.Frame) → n < length xs
    → frame_of l ≡ g (frame_of (get_or xs n d)) → OnLast n g xs (set xs n l)
changed xs n l d g h e =
    first_set xs n l h ∙ ap (λ z. z ∷ frames_of (take n xs)) e ∙ sym (ap (with_first g) (first_at xs n d h))

-- a level that is made or was there is opened
pub opened_at : (old xs : List Level) (n : ℕ) (l : Level) (f : b.Frame) → n < length xs
    → take n xs ≡ take n old → frame_of l ≡ f → Opens n f old (set xs n l)
opened_at old xs n l f h same e = (
  subst (λ k. n < k) (sym (length-set xs n l)) h,
  first_set xs n l h ∙ ap (λ z. z ∷ frames_of (take n xs)) e ∙ ap (λ ls. f ∷ frames_of ls) same,
)

pub one_more : (xs : List Level) (n : ℕ) (l : Level) → n ≡ length xs → take n (xs ++ l ∷ []) ≡ take n xs
one_more xs n l e = take-append-le n xs (l ∷ []) (omega (arith, e))

pub closed_at : (xs : List Level) (n : ℕ) (l d : Level) (x : Datum) → n < length xs
    → x ≡ value_of (frame_of (get_or xs n d)) → Closes n x xs (set xs n l)
closed_at xs n l d x h e = (
  frame_of (get_or xs n d),
  first_at xs n d h ∙ ap (λ ls. frame_of (get_or xs n d) ∷ frames_of ls) (sym (take-set xs n l)),
  e,
)

-- the innermost frame is one that fits
pub fits_at : (xs : List Level) (n : ℕ) (d : Level) → n < length xs → FramesFit (frames_of (take (n + 1) xs))
    → FrameFits (length (frames_of (take n xs))) (frame_of (get_or xs n d))
fits_at xs n d h f = (subst FramesFit (first_at xs n d h) f).1

pub no_levels : (xs : List Level) → frames_of (take 0 xs) ≡ []
unfolding frames_of
no_levels xs = refl

-- ---- so many levels, which stand for these frames

pub depth_is : (n : ℕ) (xs : List Level) (fs : List b.Frame) → n ≤ length xs → frames_of (take n xs) ≡ fs → n ≡ length fs
depth_is n xs fs h v = sym (so_many n xs h) ∙ ap length v

last_of : (n : ℕ) → 0 < n → n - 1 + 1 ≡ n
last_of n h = omega (arith, h)

pub last_changed : (n : ℕ) (old new : List Level) (g : b.Frame → b.Frame) (fs : List b.Frame) → 0 < n
    → OnLast (n - 1) g old new → frames_of (take n old) ≡ fs → frames_of (take n new) ≡ with_first g fs
last_changed n old new g fs h e v =
    let l = last_of n h in
    ap (λ k. frames_of (take k new)) (sym l) ∙ e ∙ ap (λ k. with_first g (frames_of (take k old))) l ∙ ap (with_first g) v

pub last_closed : (n : ℕ) (old new : List Level) (x : Datum) (fs : List b.Frame) → 0 < n
    → Closes (n - 1) x old new → frames_of (take n old) ≡ fs → ClosesTo x fs (frames_of (take (n - 1) new))
last_closed n old new x fs h c v =
    (c.0, sym v ∙ ap (λ k. frames_of (take k old)) (sym (last_of n h)) ∙ c.1, c.2)

pub last_fits : (n : ℕ) (old : List Level) (fs : List b.Frame) → 0 < n → FramesFit fs → frames_of (take n old) ≡ fs
    → FramesFit (frames_of (take (n - 1 + 1) old))
last_fits n old fs h f v = subst FramesFit (sym v ∙ ap (λ k. frames_of (take k old)) (sym (last_of n h))) f
