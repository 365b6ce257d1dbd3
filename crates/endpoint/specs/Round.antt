-- A record that is loaded is good where its block is. Loading and storing undo each other: a good record is loaded from the block that it was
-- stored to, and a good block is stored again as it was. In byte 6 a good block has its count of unconfirmed reports.
use Rattle.std.specs.Prelude.{ℕ, ◌<◌, ◌≡◌, List, true, length, get_or}
use Rattle.endpoint.specs.declared.Endpoint.{Endpoint}
use Rattle.endpoint.specs.Record.{awaited, good, reports_in}
use Rattle.endpoint.specs.Block.{bytes_of, is_good, load_of}

-- what the type of a record's entries says of them: they are 48 bytes
pub record Sized (e : Endpoint) : Type 0 where
  pub full : length e.entries ≡ 48
  pub bytes : (i : ℕ) → get_or e.entries i 0 < 256

-- the record of a block is good where the block is, and nowhere else
abbrev pub LoadedGood : Type 0
LoadedGood = (block : List ℕ) → good (load_of block) ≡ is_good block

-- the block of every good record holds that record
abbrev pub StoredLoads : Type 0
StoredLoads = (e : Endpoint) → Sized e → good e ≡ true → load_of (bytes_of e) ≡ e

-- C-14: "in byte 6" of a good block stands "the count of type-4 entries among the first W", which its record has
abbrev pub ByteSixCounts : Type 0
ByteSixCounts =
    (block : List ℕ) → is_good block ≡ true
    → (get_or block 6 0 ≡ (load_of block).unconfirmed) × (get_or block 6 0 ≡ length (reports_in (awaited (load_of block))))

-- every good block is the block of the record that it holds
abbrev pub LoadedStores : Type 0
LoadedStores = (block : List ℕ) → ((i : ℕ) → get_or block i 0 < 256) → is_good block ≡ true → bytes_of (load_of block) ≡ block
