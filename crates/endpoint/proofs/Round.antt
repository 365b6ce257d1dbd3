-- Loading and storing undo each other, what is loaded is good where the block is, and byte 6 of a good block counts. Assumes nothing.
use mathlib.Core.Path.{◌∙◌, ◌≡◌, ap, refl, sym}
use Prim.Native.Nat.{◌%◌, ◌+◌, ◌<◌, ◌^◌, ◌≤◌, ℕ}
use mathlib.Core.List.{List, [], ◌++◌, ◌∷◌}
use mathlib.Core.Bool.{Bool, ◌&&◌, ◌||◌, cond, false, true}
use native.Mathlib.Omega.{arith}
use lib.Dec.{eqb, leb}
use lib.ListN.{length}
use lib.Seq.{take_all}
use borrow.Author.Tests.{eqb-true, leb-true, eq-eqb}
use Rattle.bytes_be.specs.Number.{number_at, to_bytes}
use Rattle.bytes_be.specs.Part.{part}
use Rattle.bytes_be.proofs.Numbers.{byte_there, number_is, Bytes, bytes_part, bytes_there, number_below}
use Rattle.bytes_be.proofs.Parts.{length_part, part_behind, part_inside, part_then}
use Rattle.bytes_be.proofs.Tests.{both_true}
use Rattle.double.specs.Limit.{least_limit, most_limit}
use Rattle.endpoint.specs.declared.Endpoint.{Endpoint}
use Rattle.endpoint.specs.Block.{bytes_of, head_bytes, holds_endpoint, is_good, load_of, record_in, spare_is_zero}
use Rattle.endpoint.specs.Record.{fresh_of, good, in_ranges, producer, batch, client, consumer, count_fits, entry_at, offer, server, no_endpoint}
use Rattle.endpoint.specs.Round.{Sized, ByteSixCounts, LoadedGood, LoadedStores, StoredLoads}
use Rattle.endpoint.proofs.Reports.{reports_few}
use Rattle.endpoint.proofs.Stored.{length_block, length_head}
use Rattle.endpoint.proofs.StaysGood.{fresh_sized}
use Rattle.endpoint.proofs.Told.{good_told}

-- a byte is the number at its place
byte_is : (s : List ℕ) (at n : ℕ) → at < length s → n < 256 → part s at 1 ≡ n ∷ [] → number_at 1 s at ≡ n
unfolding to_bytes
byte_is s at n inside small found =
    let byte : n ≡ n % 256 = omega arith in
    number_is 1 s at n (omega arith) (omega arith) (found ∙ ap (λ (k : ℕ). k ∷ []) byte)

-- the numbers of a good record fit their places in the block

at_most : (least n most : ℕ) → leb least n && leb n most ≡ true → n ≤ most
at_most least n most fits = leb-true n most (both_true (leb least n) (leb n most) fits).1

count_small : (counting : Bool) (n : ℕ) → cond counting (leb 1 n && leb n 65535) (eqb n 0) ≡ true → n < 256 ^ 2
count_small true n fits = omega (arith, at_most 1 n 65535 fits)
count_small false n fits = omega (arith, eqb-true n 0 fits)

module _ (e : Endpoint) (sized : Sized e) (g : good e ≡ true) where
  long : length (bytes_of e) ≡ 64
  long = length_block e sized.full

  -- a part of the block's first 16 bytes
  part_head : (at size : ℕ) → at + size ≤ 16 → part (bytes_of e) at size ≡ part (head_bytes e) at size
  unfolding bytes_of
  part_head at size inside = part_inside (head_bytes e) e.entries at size (omega (arith, length_head e))

  -- the numbers there
  byte_back : (at n : ℕ) → at < 16 → n < 256 → part (head_bytes e) at 1 ≡ n ∷ [] → number_at 1 (bytes_of e) at ≡ n
  byte_back at n inside small found = byte_is (bytes_of e) at n (omega (arith, long)) small (part_head at 1 (omega arith) ∙ found)

  number_back : (width at n : ℕ) → at + width ≤ 16 → n < 256 ^ width → part (head_bytes e) at width ≡ to_bytes width n → number_at width (bytes_of e) at ≡ n
  number_back width at n inside small found = number_is width (bytes_of e) at n (omega (arith, long)) small (part_head at width inside ∙ found)

  -- and the bytes behind them
  entries_back : part (bytes_of e) 16 48 ≡ e.entries
  unfolding bytes_of
  entries_back = part_behind (head_bytes e) e.entries 16 0 48 (length_head e) ∙ take_all 48 e.entries (omega (arith, sized.full))

  -- the whole record, and zeros at the spare places
  record_back : record_in (bytes_of e) ≡ e
  unfolding record_in head_bytes to_bytes count_fits
  record_back =
      let told = good_told e g in
      let role = byte_back 0 e.role (omega arith) (omega (arith, at_most client e.role server told.roles)) refl in
      let flow = byte_back 1 e.flow (omega arith) (omega (arith, at_most producer e.flow consumer told.flows)) refl in
      let phase = byte_back 2 e.phase (omega arith) (omega (arith, told.phases)) refl in
      let w = byte_back 3 e.w (omega arith) (omega (arith, told.waits)) refl in
      let n = number_back 2 4 e.n (omega arith) (count_small (eqb e.phase offer || eqb e.phase batch) e.n told.counted) refl in
      let few = reports_few (entry_at e.entries) e.w in
      let unconfirmed = byte_back 6 e.unconfirmed (omega arith) (omega (arith, told.tallied, few, told.waits)) refl in
      let limit = number_back 4 8 e.limit (omega arith) (omega (arith, at_most least_limit e.limit most_limit told.bounded)) refl in
      λ i. record { role = role i; flow = flow i; phase = phase i; w = w i; n = n i; unconfirmed = unconfirmed i; limit = limit i; entries = entries_back i }

  spare_back : spare_is_zero (bytes_of e) ≡ true
  unfolding spare_is_zero head_bytes to_bytes
  spare_back =
      simp (byte_back 7 0 (omega arith) (omega arith) refl, number_back 4 12 0 (omega arith) (omega arith) refl)

-- the block of a good record holds that record: what was stored is loaded
pub stored_loads : StoredLoads
unfolding load_of
stored_loads e sized g = simp (eq-eqb (length (bytes_of e)) 64 (long e sized g), spare_back e sized g) (record_back e sized g)

-- a block that holds an endpoint is as good as its record, and any other is not good and loaded as none
pub loaded_good : LoadedGood
unfolding is_good load_of good in_ranges fresh_of
loaded_good block = go (holds_endpoint block)
  where
    go : (t : Bool) → good (cond t (record_in block) no_endpoint) ≡ t && good (record_in block)
    go true = refl
    go false = refl

-- what a good block says
pub record BlockTold (block : List ℕ) : Type 0 where
  pub full : length block ≡ 64
  pub spare_byte : number_at 1 block 7 ≡ 0
  pub spare_last : number_at 4 block 12 ≡ 0
  pub held : load_of block ≡ record_in block

pub block_told : (block : List ℕ) → is_good block ≡ true → BlockTold block
unfolding is_good load_of spare_is_zero
block_told block g =
    let p = both_true (holds_endpoint block) (good (record_in block)) g in
    let q = both_true (eqb (length block) 64) (spare_is_zero block) p.0 in
    let r = both_true (eqb (number_at 1 block 7) 0) (eqb (number_at 4 block 12) 0) q.1 in
    record {
      full = eqb-true _ _ q.0;
      spare_byte = eqb-true _ _ r.0;
      spare_last = eqb-true _ _ r.1;
      held = simp p.0;
    }

pub byte_six_counts : ByteSixCounts
unfolding record_in
byte_six_counts block g =
    let told = block_told block g in
    let good-record = loaded_good block ∙ g in
    let there = sym (byte_there block 6 (omega (arith, told.full))) ∙ ap (λ (e : Endpoint). e.unconfirmed) (sym told.held) in
    (there, there ∙ (good_told (load_of block) good-record).tallied)

module _ (block : List ℕ) (bytes : Bytes block) where
  -- the entries of a block of bytes are 48 bytes
  record_sized : length block ≡ 64 → Sized (record_in block)
  unfolding record_in
  record_sized full = record { full = length_part block 16 48 (omega arith); bytes = bytes_part block 16 48 bytes }

  -- and so are those of what is loaded
  pub loaded_sized : Sized (load_of block)
  unfolding load_of
  loaded_sized = go (holds_endpoint block) refl
    where
      go : (t : Bool) → holds_endpoint block ≡ t → Sized (cond t (record_in block) no_endpoint)
      go true holds = record_sized (eqb-true (length block) 64 (both_true (eqb (length block) 64) (spare_is_zero block) holds).0)
      go false other = fresh_sized 0 0 0

  module _ (full : length block ≡ 64) where
    -- the bytes of the numbers at their places are those of the block
    bytes_at : (width at : ℕ) → at + width ≤ 64 → to_bytes width (number_at width block at) ≡ part block at width
    bytes_at width at inside = bytes_there width block at bytes (omega arith)

    byte_at : (at : ℕ) → at < 64 → number_at 1 block at ∷ [] ≡ part block at 1
    unfolding to_bytes
    byte_at at inside =
        let byte : number_at 1 block at ≡ number_at 1 block at % 256 = omega (arith, number_below 1 block at bytes) in
        ap (λ (k : ℕ). k ∷ []) byte ∙ bytes_at 1 at (omega arith)

    head_there : number_at 1 block 7 ≡ 0 → number_at 4 block 12 ≡ 0 → head_bytes (record_in block) ≡ part block 0 16
    unfolding head_bytes record_in
    head_there spare_byte spare_last =
        let seven : 0 ∷ [] ≡ part block 7 1 = ap (λ (k : ℕ). k ∷ []) (sym spare_byte) ∙ byte_at 7 (omega arith) in
        let last : to_bytes 4 0 ≡ part block 12 4 = ap (to_bytes 4) (sym spare_last) ∙ bytes_at 4 12 (omega arith) in
        (λ i. (byte_at 0 (omega arith) i ++ byte_at 1 (omega arith) i ++ byte_at 2 (omega arith) i ++ byte_at 3 (omega arith) i)
        ++ bytes_at 2 4 (omega arith) i ++ (byte_at 6 (omega arith) i ++ seven i) ++ bytes_at 4 8 (omega arith) i ++ last i)
        ∙ simp (
          part_then block 0 1 1 1 refl,
          part_then block 0 2 1 2 refl,
          part_then block 0 3 1 3 refl,
          part_then block 0 4 2 4 refl,
          part_then block 6 1 1 7 refl,
          part_then block 0 6 2 6 refl,
          part_then block 0 8 4 8 refl,
          part_then block 0 12 4 12 refl,
        )

-- a good block is the block of its record: what was loaded is stored again as it was
pub loaded_stores : LoadedStores
unfolding bytes_of record_in
loaded_stores block bytes g =
    let told = block_told block g in
    ap bytes_of told.held
    ∙ ap (λ (head : List ℕ). head ++ part block 16 48) (head_there block bytes told.full told.spare_byte told.spare_last)
    ∙ part_then block 0 16 48 16 refl
    ∙ take_all 64 block (omega (arith, told.full))
