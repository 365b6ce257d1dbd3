-- "State block": the record that the block holds, what a good one is, what making gives, and the ways in which a record changes.
use Rattle.std.specs.Prelude.{ℕ, zero, suc, ◌+◌, ◌-◌, ◌*◌, Result, Ok, Err, List, [], ◌∷◌, ◌++◌, Bool, true, cond, ◌&&◌, ◌||◌, drop, length, replicate, take, ltb, leb, eqb}
use Rattle.numbered.specs.Numbered.{number_of}
use Rattle.bytes_be.specs.Part.{tabulate, put_at}
use Rattle.bytes_be.specs.Number.{number_at, to_bytes}
use Rattle.double.specs.Limit.{most_limit, in_limits}
use Rattle.endpoint.specs.declared.Entry.{Entry}
use Rattle.endpoint.specs.declared.Endpoint.{Endpoint}
use Rattle.endpoint.specs.declared.BadMaking.{BadMaking}

-- "role (1 client, 2 server)"
abbrev pub client : ℕ
client = 1

abbrev pub server : ℕ
server = 2

-- "flow (1 producer, 2 consumer)"
abbrev pub producer : ℕ
producer = 1

abbrev pub consumer : ℕ
consumer = 2

-- "phase (0 fresh, 1 opening, 2 idle, 3 offer, 4 batch, 5 closed)"
abbrev pub fresh : ℕ
fresh = 0

abbrev pub opening : ℕ
opening = 1

abbrev pub idle : ℕ
idle = 2

abbrev pub offer : ℕ
offer = 3

abbrev pub batch : ℕ
batch = 4

abbrev pub shut : ℕ
shut = 5

-- "sixteen entries of 3 bytes (type, type-data)"
abbrev pub capacity : ℕ
capacity = 16

unfoldable pub entry_bytes : Entry → List ℕ
entry_bytes entry = entry.message ∷ to_bytes 2 entry.type_data

-- entry i of the 48 bytes
unfoldable pub entry_at : List ℕ → ℕ → Entry
entry_at entries i = record { message = number_at 1 entries (3 * i); type_data = number_at 2 entries (3 * i + 1) }

-- "entries zero"
abbrev pub no_entries : List ℕ
no_entries = replicate 48 0

-- the confirmations awaited: "oldest first"
abbrev pub awaited : Endpoint → List Entry
awaited e = tabulate 0 e.w (entry_at e.entries)

-- what is read off those elements of a list that pass a test, in their order
abbrev pub read_off : {A : Type 0} → (A → Bool) → (A → ℕ) → List A → List ℕ
read_off test number [] = []
read_off test number (x ∷ rest) = cond (test x) (number x ∷ read_off test number rest) (read_off test number rest)

-- C-14: "type-4 entries"
abbrev pub of_data : Entry → Bool
of_data entry = eqb entry.message 4

-- "how many of the awaited confirmations belong to DATA": those that do, by their type-data
abbrev pub reports_in : List Entry → List ℕ
reports_in entries = read_off of_data (λ entry. entry.type_data) entries

-- "A block is good if these ranges hold"
abbrev pub good_flow : ℕ → Bool
good_flow flow = leb producer flow && leb flow consumer

unfoldable pub in_ranges : Endpoint → Bool
in_ranges e =
    leb client e.role
    && leb e.role server
    && good_flow e.flow
    && leb e.phase shut
    && leb e.w capacity

-- "n is 1..65,535 in phases 3 and 4 and else 0"
unfoldable pub count_fits : Endpoint → Bool
count_fits e = cond (eqb e.phase offer || eqb e.phase batch) (leb 1 e.n && leb e.n 65535) (eqb e.n 0)

-- "W is 0 in phases 0, 1 and 5"
unfoldable pub wait_fits : Endpoint → Bool
wait_fits e = cond (eqb e.phase fresh || eqb e.phase opening || eqb e.phase shut) (eqb e.w 0) true

-- "the first W entries have type 3 or 4, with 4 only for a producer"
unfoldable pub awaitable : ℕ → Entry → Bool
awaitable flow entry = eqb entry.message 3 || (eqb entry.message 4 && eqb flow producer)

-- "the others are zero"
unfoldable pub is_none : Entry → Bool
is_none entry = eqb entry.message 0 && eqb entry.type_data 0

-- entry i, with this flow and this W
abbrev pub fits : ℕ → ℕ → Entry → ℕ → Bool
fits flow w entry i = cond (ltb i w) (awaitable flow entry) (is_none entry)

unfoldable pub entry_fits : Endpoint → ℕ → Bool
entry_fits e i = fits e.flow e.w (entry_at e.entries i) i

-- whether a test holds of every number below this one
abbrev pub every : ℕ → (ℕ → Bool) → Bool
every zero test = true
every (suc k) test = every k test && test k

unfoldable pub entries_fit : Endpoint → Bool
entries_fit e = every capacity (entry_fits e)

-- C-14: "the count of type-4 entries among the first W"
unfoldable pub unconfirmed_fits : Endpoint → Bool
unconfirmed_fits e = eqb e.unconfirmed (length (reports_in (awaited e)))

-- both tests of the entries, of these 48 bytes, with this flow, this W and this count
abbrev pub all_fit : List ℕ → ℕ → ℕ → ℕ → Bool
all_fit entries flow w unconfirmed =
    every capacity (λ i. fits flow w (entry_at entries i) i) && eqb unconfirmed (length (reports_in (tabulate 0 w (entry_at entries))))

-- "A block is good if .."; "limit is 1,000,000..50,000,000"
unfoldable pub good : Endpoint → Bool
good e = in_ranges e && count_fits e && wait_fits e && entries_fit e && unconfirmed_fits e && in_limits e.limit

-- "Making tests .. 34": "bad .. flow or limit given"
unfoldable pub given_of : ℕ → ℕ → Result (Unit {0}) BadMaking
given_of flow limit = cond (good_flow flow && in_limits limit) (Ok tt) (Err (record {}))

abbrev pub making_number : BadMaking → ℕ
making_number why = 34

-- of what is given, and of what is made
abbrev pub given_number : {A : Type 0} → Result A BadMaking → ℕ
given_number answer = number_of making_number answer

-- "Both give phase 0 and zeros."
unfoldable pub fresh_of : ℕ → ℕ → ℕ → Endpoint
fresh_of role flow limit =
    record { role = role; flow = flow; phase = fresh; w = 0; n = 0; unconfirmed = 0; limit = limit; entries = no_entries }

-- "Making a client takes flow and limit; making a server takes flow, with limit 50,000,000."
abbrev pub fresh_client : ℕ → ℕ → Endpoint
fresh_client flow limit = fresh_of client flow limit

abbrev pub fresh_server : ℕ → Endpoint
fresh_server flow = fresh_of server flow most_limit

-- what stands for no endpoint: no role is 0, so it is not good
abbrev pub no_endpoint : Endpoint
no_endpoint = fresh_of 0 0 0

-- "Making tests .. 34.": the record that is made
unfoldable pub made_of : Endpoint → Result Endpoint BadMaking
made_of made = cond (good_flow made.flow && in_limits made.limit) (Ok made) (Err (record {}))

-- "All others change no byte.": the record that is made, or what was there before
abbrev pub made_or : Endpoint → Result Endpoint BadMaking → Endpoint
made_or before (Ok made) = made
made_or before (Err why) = before

-- "Phase becomes 5; n, W and entries zero."; so is the count of C-14
unfoldable pub closed : Endpoint → Endpoint
closed e =
    record { role = e.role; flow = e.flow; phase = shut; w = 0; n = 0; unconfirmed = 0; limit = e.limit; entries = no_entries }

-- the same endpoint in another phase, with another n
unfoldable pub at_phase : Endpoint → ℕ → ℕ → Endpoint
at_phase e phase n =
    record { role = e.role; flow = e.flow; phase = phase; w = e.w; n = n; unconfirmed = e.unconfirmed; limit = e.limit; entries = e.entries }

-- C-14, with an entry more and with one less: an entry of DATA counts, and one that is taken out counts no more. Above sixteen and below zero
-- the count does not go, which no good record comes to.
unfoldable pub unconfirmed_with : ℕ → Entry → ℕ
unconfirmed_with unconfirmed entry = cond (ltb unconfirmed capacity && of_data entry) (unconfirmed + 1) unconfirmed

unfoldable pub unconfirmed_without : ℕ → Entry → ℕ
unconfirmed_without unconfirmed entry = cond (of_data entry) (unconfirmed - 1) unconfirmed

-- the same endpoint with an entry more behind the first W
abbrev pub one_more : Endpoint → Entry → Endpoint
one_more e entry =
    record {
      role = e.role;
      flow = e.flow;
      phase = e.phase;
      w = e.w + 1;
      n = e.n;
      unconfirmed = unconfirmed_with e.unconfirmed entry;
      limit = e.limit;
      entries = put_at e.entries (3 * e.w) (entry_bytes entry);
    }

-- "An ask adds an entry", where there is room for one more
unfoldable pub asked : Endpoint → Entry → Endpoint
asked e entry = cond (ltb e.w capacity) (one_more e entry) e

-- entry i of the record, of three zeros where i is 16 or more
abbrev pub entry_of : Endpoint → ℕ → Entry
entry_of e i = entry_at e.entries i

-- "the oldest entry"
abbrev pub oldest : Endpoint → Entry
oldest e = entry_of e 0

-- the 48 bytes without entry i: those behind it move up, and the last three are zero
abbrev pub without_entry : List ℕ → ℕ → List ℕ
without_entry entries i = take (3 * i) entries ++ drop (3 * i + 3) entries ++ (0 ∷ 0 ∷ 0 ∷ [])

-- the same endpoint without entry i: W is one less, and the count where that entry is of DATA
abbrev pub one_less : Endpoint → ℕ → Endpoint
one_less e i =
    record {
      role = e.role;
      flow = e.flow;
      phase = e.phase;
      w = e.w - 1;
      n = e.n;
      unconfirmed = unconfirmed_without e.unconfirmed (entry_of e i);
      limit = e.limit;
      entries = without_entry e.entries i;
    }

-- "it removes it", where i is below 16; else the endpoint as it is
abbrev pub without : Endpoint → ℕ → Endpoint
without e i = cond (ltb i capacity) (one_less e i) e

-- "it removes it", the oldest
unfoldable pub confirmed : Endpoint → Endpoint
confirmed e = without e 0

-- the same endpoint with another limit
unfoldable pub limited : Endpoint → ℕ → Endpoint
limited e limit =
    record { role = e.role; flow = e.flow; phase = e.phase; w = e.w; n = e.n; unconfirmed = e.unconfirmed; limit = limit; entries = e.entries }
