-- Laws of the lengths of a bundle, and what is known of a good one. Assumes nothing.
use mathlib.Core.Path.{◌≡◌, ◌∙◌, refl, sym, ap}
use mathlib.Core.List.{List}
use mathlib.Core.Bool.{true, false}
use Rattle.std.specs.Prelude.{Option, Some, None, Result, Ok, Err}
use Rattle.std.proofs.lemmas.Result.{IfOk-at_ok}
use Prim.Native.Nat.{ℕ, zero, suc, ◌+◌, ◌*◌, ◌-◌, ◌≤◌, ◌<◌}
use native.Mathlib.Nat.{add-zero, add-suc}
use native.Mathlib.Numerals.{add-one}
use native.Mathlib.Omega.{arith}
use lib.Dec.{leb, ltb, eqb}
use lib.ListN.{length}
use borrow.Author.Tests.{lt-ltb, le-ltb, ltb-true, leb-true, eqb-true}
use Rattle.bytes_be.proofs.Tests.{both_true, clash, took_first, took_second}
use Rattle.bytes_be.specs.declared.Place.{Place}
use Rattle.bundle.specs.Reading.{count_of, counted, length_of, lengths_before, start_of, place_of, good, size_of, contents_of, frame_of}
use Rattle.bundle.specs.declared.Contents.{Contents}
use Rattle.bundle.specs.declared.BadBundle.{BadBundle}

pub before_suc : (s : List ℕ) (k : ℕ) → lengths_before s (suc k) ≡ lengths_before s k + length_of s k
unfolding lengths_before
before_suc s k = refl

pub before_more : (s : List ℕ) (k : ℕ) → lengths_before s (k + 1) ≡ lengths_before s k + length_of s k
before_more s k = rw add-one (before_suc s k)

pub before_grows : (s : List ℕ) (i k : ℕ) → lengths_before s i ≤ lengths_before s (i + k)
before_grows s i zero = rw add-zero (omega arith)
before_grows s i (suc k) = rw add-suc (omega (arith, before_grows s i k, before_suc s (i + k)))

-- what is known of a good bundle
pub record Good (s : List ℕ) (count : ℕ) : Type 0 where
  pub is-good : good s ≡ true
  pub counts : count_of s ≡ count
  pub some : 1 ≤ count
  pub few : count ≤ 16
  pub ends : start_of s count ≡ length s

pub good_told : (s : List ℕ) → good s ≡ true → Good s (count_of s)
unfolding good
good_told s e =
    let both = both_true (counted (count_of s)) (eqb (start_of s (count_of s)) (length s)) e in
    let range = both_true (leb 1 (count_of s)) (leb (count_of s) 16) both.0 in
    record { is-good = e; counts = refl; some = leb-true _ _ range.0; few = leb-true _ _ range.1; ends = eqb-true _ _ both.1 }

-- the lengths of a good bundle lie in its contents, and its bodies behind them

pub contents_inside : (s : List ℕ) → good s ≡ true → (k : ℕ) → k < count_of s → 2 + 4 * k + 4 ≤ length s
unfolding start_of
contents_inside s g k h = omega (arith, (good_told s g).ends)

pub body_inside : (s : List ℕ) → good s ≡ true → (k : ℕ) → k < count_of s → start_of s k + length_of s k ≤ length s
unfolding start_of
body_inside s g k h =
    let end : suc k + (count_of s - suc k) ≡ count_of s = omega arith in
    omega (arith, (good_told s g).ends, before_suc s k, rw end at (before_grows s (suc k) (count_of s - suc k)))

-- a good bundle hands out each of its frames, and none behind the last

pub frame_there : (s : List ℕ) → good s ≡ true → (k : ℕ) → k < count_of s → frame_of s k ≡ Ok (Some (place_of s k))
unfolding frame_of
frame_there s g k h = simp (g, lt-ltb k (count_of s) h)

pub frame_behind : (s : List ℕ) → good s ≡ true → (k : ℕ) → count_of s ≤ k → frame_of s k ≡ Ok None
unfolding frame_of
frame_behind s g k h = simp (g, le-ltb k (count_of s) h)

-- and what is handed out is a frame of a good bundle

bad_at : {bad : BadBundle} {place : Place} → Err bad ≡ Ok (Some place) → ⊥
bad_at e = clash cc

behind_at : {place : Place} → ◌≡◌ {A = Result (Option Place) BadBundle} (Ok None) (Ok (Some place)) → ⊥
behind_at e = clash cc

pub frame_told : (s : List ℕ) (k : ℕ) {place : Place} → frame_of s k ≡ Ok (Some place) → (good s ≡ true) × (k < count_of s)
unfolding frame_of
frame_told s k e =
    let taken = took_first (good s) bad_at e in
    (taken.0, ltb-true k (count_of s) (took_first (ltb k (count_of s)) behind_at taken.1).0)

-- contents are those of a good bundle alone

bad_contents : {bad : BadBundle} {contents : Contents} → Err bad ≡ Ok contents → ⊥
bad_contents e = clash cc

-- what is known where there are contents
pub record Told (s : List ℕ) (contents : Contents) : Type 0 where
  pub whole : Good s contents.count
  pub first : place_of s 0 ≡ contents.control
  pub sized : size_of s ≡ contents.size
  pub inside : contents.control.at + contents.control.length ≤ length s
  pub within : contents.control.length ≤ contents.size

pub contents_told : (s : List ℕ) (contents : Contents) → contents_of s ≡ Ok contents → Told s contents
unfolding contents_of size_of
contents_told s contents e =
    let taken = took_first (good s) bad_contents e in
    let good = good_told s taken.0 in
    let all : 1 + (count_of s - 1) ≡ count_of s = omega (arith, good.some) in
    IfOk-at_ok (Told s) taken.1
    (record {
      whole = good;
      first = refl;
      sized = refl;
      inside = body_inside s taken.0 0 good.some;
      within = omega (arith, before_suc s 0, rw all at (before_grows s 1 (count_of s - 1)));
    })

-- each of these alone, for those who read a bundle

pub contents_some : (s : List ℕ) (contents : Contents) → contents_of s ≡ Ok contents → 1 ≤ contents.count
contents_some s contents e = (contents_told s contents e).whole.some

pub contents_few : (s : List ℕ) (contents : Contents) → contents_of s ≡ Ok contents → contents.count ≤ 16
contents_few s contents e = (contents_told s contents e).whole.few

pub control_inside : (s : List ℕ) (contents : Contents) → contents_of s ≡ Ok contents → contents.control.at + contents.control.length ≤ length s
control_inside s contents e = (contents_told s contents e).inside

pub control_within : (s : List ℕ) (contents : Contents) → contents_of s ≡ Ok contents → contents.control.length ≤ contents.size
control_within s contents e = (contents_told s contents e).within

pub contents_none : (s : List ℕ) {bad : BadBundle} → contents_of s ≡ Err bad → good s ≡ false
unfolding contents_of
contents_none s e = (took_second (good s) (λ same. bad_contents (sym same)) e).0

-- the second of two frames is all that stands behind the first
pub second_of_two : (s : List ℕ) (contents : Contents) → contents_of s ≡ Ok contents → contents.count ≡ 2 →
    frame_of s 1 ≡ Ok (Some (record { at = contents.control.at + contents.control.length; length = contents.size - contents.control.length }))
unfolding start_of size_of lengths_before
second_of_two s contents e two =
    let told = contents_told s contents e in
    let starts : start_of s 0 ≡ contents.control.at = ap (λ (place : Place). place.at) told.first in
    let long : length_of s 0 ≡ contents.control.length = ap (λ (place : Place). place.length) told.first in
    let counts : count_of s ≡ 2 = told.whole.counts ∙ two in
    let sum : lengths_before s 2 ≡ contents.size = rw counts at told.sized in
    let at : start_of s 1 ≡ contents.control.at + contents.control.length = omega arith in
    let length : length_of s 1 ≡ contents.size - contents.control.length = omega arith in
    frame_there s told.whole.is-good 1 (omega (arith, counts)) ∙ simp (at, length)
