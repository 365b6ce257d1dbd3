-- The cases of a varint, each by the tests that lead there, and where a varint that was read ends. Assumes nothing.
use Prim.Native.Nat.{ℕ, zero, suc, ◌+◌, ◌-◌, ◌*◌, ◌%◌, ◌^◌, ◌≤◌, ◌<◌}
use mathlib.Core.Path.{◌≡◌, refl, sym, ◌∙◌, ap}
use mathlib.Core.List.{List}
use mathlib.Core.Bool.{Bool, true, false, cond}
use lib.ListN.{get_or}
use lib.Dec.{ltb}
use native.Mathlib.Numerals.{sub-one}
use native.Mathlib.Omega.{arith}
use borrow.Author.Tests.{le-ltb, lt-ltb, ltb-true, ltb-false}
use Rattle.std.specs.Prelude.{Result, Ok, Err}
use Rattle.bytes_be.proofs.Tests.{clash}
use Rattle.wire.specs.declared.Kind.{Kind}
use Rattle.wire.specs.declared.Kind.TheVariants.{CutShort, BadVarint}
use Rattle.wire.specs.declared.Varint.{Varint}
use Rattle.wire.specs.Varint.{Said, varint_of, below, bounded, said_at, varint_at}

-- a byte below what the bytes behind it say, where what they say is known to be bounded
abbrev below_bounded : ℕ → Said → Said
below_bounded byte (Ok varint) = cond (ltb varint.value (2 ^ 57)) (varint_of (varint.value * 128 + byte % 128) varint.next) (Err BadVarint)
below_bounded byte (Err kind) = Err kind

bounded_below : (byte : ℕ) (w : Said) → bounded (below byte w) ≡ below_bounded byte (bounded w)
bounded_below byte (Err kind) = refl
bounded_below byte (Ok varint) = go (ltb varint.value (2 ^ 57)) refl (ltb varint.value (2 ^ 64)) refl
  where
    go : (t : Bool) → ltb varint.value (2 ^ 57) ≡ t → (u : Bool) → ltb varint.value (2 ^ 64) ≡ u
        → bounded (below byte (Ok varint)) ≡ below_bounded byte (bounded (Ok varint))
    go true p true q = let h = ltb-true varint.value (2 ^ 57) p in simp (p, q, lt-ltb (varint.value * 128 + byte % 128) (2 ^ 64) (omega arith))
    go true p false q = let h = ltb-true varint.value (2 ^ 57) p in let k = ltb-false varint.value (2 ^ 64) q in absurd (omega arith)
    go false p true q = let h = ltb-false varint.value (2 ^ 57) p in simp (p, q, le-ltb (varint.value * 128 + byte % 128) (2 ^ 64) (omega arith))
    go false p false q = let h = ltb-false varint.value (2 ^ 57) p in simp (q, le-ltb (varint.value * 128 + byte % 128) (2 ^ 64) (omega arith))

module _ (left : ℕ) (s : List ℕ) (at end : ℕ) where
  pub at_none : left ≡ 0 → Err BadVarint ≡ bounded (said_at left s at end)
  unfolding said_at
  at_none h = rw h

  module _ (some : left ≡ 0 → ⊥) where
    pub at_end : end ≤ at → Err CutShort ≡ bounded (said_at left s at end)
    unfolding said_at
    at_end h = go left some
      where
        go : (n : ℕ) → (n ≡ 0 → ⊥) → Err CutShort ≡ bounded (said_at n s at end)
        go zero n = absurd (n refl)
        go (suc k) n = simp (le-ltb at end h)

    module _ (inside : at < end) where
      pub at_last : get_or s at 0 < 128 → varint_of (get_or s at 0) (at + 1) ≡ bounded (said_at left s at end)
      unfolding said_at
      at_last b = go left some
        where
          go : (n : ℕ) → (n ≡ 0 → ⊥) → varint_of (get_or s at 0) (at + 1) ≡ bounded (said_at n s at end)
          go zero n = absurd (n refl)
          go (suc k) n = simp (lt-ltb at end inside, lt-ltb (get_or s at 0) 128 b, lt-ltb (get_or s at 0) (2 ^ 64) (omega arith))

      module _ (marked : 128 ≤ get_or s at 0) where
        at_more : bounded (below (get_or s at 0) (said_at (left - 1) s (at + 1) end)) ≡ bounded (said_at left s at end)
        unfolding said_at
        at_more = go left some
          where
            go : (n : ℕ) → (n ≡ 0 → ⊥) → bounded (below (get_or s at 0) (said_at (n - 1) s (at + 1) end)) ≡ bounded (said_at n s at end)
            go zero n = absurd (n refl)
            go (suc k) n = simp (lt-ltb at end inside, le-ltb (get_or s at 0) 128 marked, sub-one)

        -- what a call on the bytes behind gave
        module _ (r : Said) (behind : r ≡ bounded (said_at (left - 1) s (at + 1) end)) where
          said : below_bounded (get_or s at 0) r ≡ bounded (said_at left s at end)
          said = ap (below_bounded (get_or s at 0)) behind ∙ sym (bounded_below (get_or s at 0) (said_at (left - 1) s (at + 1) end)) ∙ at_more

          pub more_read : (varint : Varint) (low : ℕ) → r ≡ Ok varint → varint.value < 2 ^ 57 → low ≡ get_or s at 0 % 128
              → varint_of (varint.value * 128 + low) varint.next ≡ bounded (said_at left s at end)
          more_read varint low p l q = cc (said, lt-ltb varint.value (2 ^ 57) l)

          pub more_large : (varint : Varint) → r ≡ Ok varint → 2 ^ 57 ≤ varint.value → Err BadVarint ≡ bounded (said_at left s at end)
          more_large varint p l = cc (said, le-ltb varint.value (2 ^ 57) l)

          pub more_err : (kind : Kind) → r ≡ Err kind → Err kind ≡ bounded (said_at left s at end)
          more_err kind p = cc said

pub err_not_read : {A : Type 0} {kind : Kind} {value next : ℕ} → Err kind ≡ varint_of value next → A
err_not_read e = clash cc

pub same_varint : {E : Type 0} {here there : Varint} → ◌≡◌ {A = Result Varint E} (Ok here) (Ok there) → here ≡ there
same_varint p = cc

pub read_next : {v w x y : ℕ} → varint_of v x ≡ varint_of w y → x ≡ y
read_next p = ap (λ (varint : Varint). varint.next) (same_varint p)

-- a varint that was read ends behind its start and within the message
pub said_within : (left : ℕ) (s : List ℕ) (at end value next : ℕ) → said_at left s at end ≡ varint_of value next → (at < next) × (next ≤ end)
unfolding said_at
said_within zero s at end value next e = err_not_read e
said_within (suc left) s at end value next e =
    go (ltb at end) refl (ltb (get_or s at 0) 128) (said_at left s (at + 1) end) (said_within left s (at + 1) end) e
  where
    go : (t : Bool) → ltb at end ≡ t → (u : Bool) (w : Said) → ((v x : ℕ) → w ≡ varint_of v x → (at + 1 < x) × (x ≤ end))
        → cond t (cond u (varint_of (get_or s at 0) (at + 1)) (below (get_or s at 0) w)) (Err CutShort) ≡ varint_of value next → (at < next) × (next ≤ end)
    go false p u w r e = err_not_read e
    go true p true w r e = let h = ltb-true at end p in let g = read_next e in omega arith
    go true p false (Ok varint) r e = let h = r varint.value varint.next refl in let g = read_next e in omega arith
    go true p false (Err kind) r e = err_not_read e

pub varint_within : (s : List ℕ) (at end value next : ℕ) → varint_at s at end ≡ varint_of value next → (at < next) × (next ≤ end)
unfolding varint_at
varint_within s at end value next e = go (said_at 10 s at end) refl e
  where
    went : (v x : ℕ) → said_at 10 s at end ≡ varint_of v x → (t : Bool) → cond t (varint_of v x) (Err BadVarint) ≡ varint_of value next → (at < next) × (next ≤ end)
    went v x p true e = let h = said_within 10 s at end v x p in let g = read_next e in omega arith
    went v x p false e = err_not_read e

    go : (w : Said) → said_at 10 s at end ≡ w → bounded w ≡ varint_of value next → (at < next) × (next ≤ end)
    go (Ok varint) p e = went varint.value varint.next p (ltb varint.value (2 ^ 64)) e
    go (Err kind) p e = err_not_read e
