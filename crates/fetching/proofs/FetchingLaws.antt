-- Laws of fetching. To store one token and then those ahead of the reader behind it is to store all; how many tokens are left says
-- whether those ahead are more than are spare; and the cases of the answer. Each is one scan, or one look at the tests. Assumes nothing.
use Rattle.std.specs.Prelude.{ℕ, suc, ◌+◌, ◌-◌, ◌≤◌, ◌<◌, ◌≡◌, refl, Bool, true, false, not, ◌&&◌, List, length, leb, ltb, get_or, Option, Some, None, Result, Ok, Err, ◌⊎◌}
use Rattle.std.specs.Option.{is_some, option_map}
use Rattle.std.specs.List.{slice_get}
use Rattle.std.proofs.lemmas.Option.{slice_get_cases}
use Rattle.std.proofs.lemmas.Iterator.Adapters.{option_map_id}
use Rattle.refusals.specs.declared.Refusal.{Refusal}
use Rattle.std.proofs.Common.{sym, ap, ◌∙◌, arith, leb-true, le-leb, le-ltb, lt-ltb, ltb-true, ltb-false, inl, inr}
use Rattle.patterns.proofs.Bools.{and_first, and_second}
use Rattle.std.proofs.lemmas.Bool.{lt-leb}
use Rattle.patterns.specs.Determined.{Once}
use Rattle.patterns.proofs.Determined.{once}
use Rattle.tokens.specs.declared.Token.{Token}
use Rattle.tokens.specs.declared.TokenIndex.{TokenIndex}
use Rattle.refusals.specs.Calls.{reply}
use Rattle.refusals.specs.RefusalLaws.{read_back}
use Rattle.reader.specs.declared.Reader.{Reader}
use Rattle.reader.specs.Reading.{source_limit, sound, ahead}
use Rattle.reader.specs.Following.{Sound, Onward, Ends, rest, still}
use Rattle.reader.proofs.Following.{ahead_none, ahead_end, ahead_more, ahead_count, rest_end, rest_more, rest_most}
use Rattle.token_room.specs.Room.{nth, write, write_all}
use Rattle.token_room.specs.RoomLaws.{length_write}
use Rattle.fetching.specs.declared.Stored.{Stored}
use Rattle.fetching.specs.Fetching.{upto, refused, stored, fetched, fetched_told, outcome}
use Rattle.fetching.specs.FetchingLaws.{Counting, Storing, fetched_read, storing}

storing_none : (r : Reader) (room : List ℕ) (i : ℕ) → storing (still r) room i ≡ (record { reader = r; next = nth i }, room)
unfolding write_all
storing_none r room i = let z : i + 0 ≡ i = omega arith in rw z

storing_more : (src : List ℕ) (r : Reader) (x : Token) (next : Reader) → Onward src r x next → (n : ℕ) → 0 < n → (room : List ℕ) (i : ℕ)
    → storing (ahead n src r) room i ≡ storing (ahead (n - 1) src next) (write room (nth i) x) (i + 1)
unfolding write_all
storing_more src r x next o n h room i =
    let e : n ≡ suc (n - 1) = omega arith in
    let z : i + suc (length (ahead (n - 1) src next).tokens) ≡ i + 1 + length (ahead (n - 1) src next).tokens = omega arith in
    rw (ap (λ k. ahead k src r) e, ahead_more src r x next o (n - 1), z)

pub storing_start : {src : List ℕ} {r : Reader} (room : List ℕ) {i : ℕ} (n : ℕ) → Sound src r → i ≤ r.place.0 → Storing src r room i n r room i n
storing_start room n h p = record { sound = h; placed = p; sized = refl; same = refl }

-- the same, where as many are wanted
pub storing_begun : {src : List ℕ} {r : Reader} (room : List ℕ) {i : ℕ} (n₀ n : ℕ) → n ≡ n₀ → Sound src r → i ≤ r.place.0 → Storing src r room i n₀ r room i n
storing_begun room n₀ n e h p = rw e (storing_start room n₀ h p)

module _ {src : List ℕ} {r₀ : Reader} {room₀ : List ℕ} {i₀ n₀ : ℕ} {r : Reader} {room : List ℕ} {i n : ℕ} (h : Storing src r₀ room₀ i₀ n₀ r room i n) where
  -- all is stored
  abbrev pub All_stored : Type 0
  All_stored =
      let a = ahead n₀ src r₀ in
      (◌≡◌ {A = Stored} (record { reader = r; next = nth i }) (stored (nth i₀) a)) × (room ≡ write_all room₀ i₀ a.tokens)

  all_stored : ahead n src r ≡ still r → All_stored
  all_stored e =
      let q = sym (storing_none r room i) ∙ ap (λ a. storing a room i) (sym e) ∙ h.same in
      (ap (λ y. y.0) q, ap (λ y. y.1) q)

  pub storing_end : Ends src r → All_stored
  storing_end e = all_stored (ahead_end src r e n)

  pub storing_done : n ≤ 0 → All_stored
  storing_done l = let z : n ≡ 0 = omega arith in all_stored (rw z (ahead_none src r))

  -- a token on; the place is further on by one at least, as the index is
  module _ {x : Token} {next : Reader} (o : Onward src r x next) where
    pub index_below : i < source_limit
    index_below = omega (arith, h.placed, o.further, o.sound.inside, o.sound.limit)

    pub storing_next : 0 < n → {after : List ℕ} → after ≡ write room (nth i) x → Storing src r₀ room₀ i₀ n₀ next after (i + 1) (n - 1)
    storing_next l e =
        record {
          sound = o.sound;
          placed = omega (arith, h.placed, o.further);
          sized = ap length e ∙ length_write room (nth i) x ∙ h.sized;
          same = rw e (sym (storing_more src r x next o n l room i) ∙ h.same);
        }

    -- the same, where one fewer is wanted
    pub storing_on : {k : ℕ} → n ≡ suc k → {after : List ℕ} → after ≡ write room (nth i) x → Storing src r₀ room₀ i₀ n₀ next after (i + 1) k
    storing_on {k} e f = let z : n - 1 ≡ k = omega arith in rw z at (storing_next (omega arith) f)

module _ {src : List ℕ} {r₀ : Reader} {n : ℕ} {r : Reader} {k : ℕ} (h : Counting src r₀ n r k) where
  pub counting_end : Ends src r → false ≡ ltb n (length (rest src r₀))
  counting_end e =
      let z : length (rest src r) ≡ 0 = ap length (rest_end src r e) in
      sym (le-ltb n (length (rest src r₀)) (omega (arith, h.counted)))

  module _ {x : Token} {next : Reader} (o : Onward src r x next) where
    one_more : length (rest src r) ≡ suc (length (rest src next))
    one_more = ap length (rest_more src r x next o)

    pub counting_next : 0 < k → Counting src r₀ n next (k - 1)
    counting_next l = record { sound = o.sound; counted = omega (arith, one_more, h.counted) }

    pub counting_more : k ≤ 0 → true ≡ ltb n (length (rest src r₀))
    counting_more l = sym (lt-ltb n (length (rest src r₀)) (omega (arith, one_more, h.counted)))

-- No more tokens are ahead than are asked for, nor than are left, which are no more than the bytes.
module _ (src : List ℕ) (r : Reader) (need spare : ℕ) where
  pub few_fit : need ≤ spare → true ≡ leb (length (ahead need src r).tokens) spare
  few_fit h = sym (le-leb (length (ahead need src r).tokens) spare (omega (arith, ahead_count src r need)))

  pub short_fits : Sound src r → length src - r.place.0 ≤ spare → true ≡ leb (length (ahead need src r).tokens) spare
  short_fits s h = sym (le-leb (length (ahead need src r).tokens) spare (omega (arith, ahead_count src r need, rest_most src r s)))

  pub rest_fits : spare < need → (t : Bool) → t ≡ ltb spare (length (rest src r)) → not t ≡ leb (length (ahead need src r).tokens) spare
  rest_fits h true e =
      let m : spare < length (rest src r) = ltb-true spare (length (rest src r)) (sym e) in
      sym (lt-leb (length (ahead need src r).tokens) spare (omega (arith, ahead_count src r need)))
  rest_fits h false e =
      let m : length (rest src r) ≤ spare = ltb-false spare (length (rest src r)) (sym e) in
      sym (le-leb (length (ahead need src r).tokens) spare (omega (arith, ahead_count src r need)))

  -- whether a token stands behind those that are spare
  pub nth_fits : spare < need → (o : Option Token) → option_map (λ x. x) o ≡ slice_get (rest src r) spare → (t : Bool) → is_some o ≡ not t
      → t ≡ leb (length (ahead need src r).tokens) spare
  nth_fits h o e t f = go t (sym (ap is_some (sym (option_map_id o) ∙ e)) ∙ f) (slice_get_cases (rest src r) spare).1
    where
      go : (t : Bool) → is_some (slice_get (rest src r) spare) ≡ not t
          → ((x : Token) × (spare < length (rest src r)) × (slice_get (rest src r) spare ≡ Some x) × (get_or (rest src r) spare x ≡ x)) ⊎ ((length (rest src r) ≤ spare) × (slice_get (rest src r) spare ≡ None))
          → t ≡ leb (length (ahead need src r).tokens) spare
      go true q (inl w) = let k = rw w.2 at q in cc
      go true q (inr w) = sym (le-leb (length (ahead need src r).tokens) spare (omega (arith, ahead_count src r need, w.0)))
      go false q (inl w) = sym (lt-leb (length (ahead need src r).tokens) spare (omega (arith, ahead_count src r need, w.1)))
      go false q (inr w) = let k = rw w.1 at q in cc

-- The test of the source, the reader and the index.
module _ (src : List ℕ) (r : Reader) (first : TokenIndex) where
  abbrev pub Is_sound : Bool → Type 0
  Is_sound t = t ≡ (sound src r && leb first.0 r.place.0)

  pub too_long : source_limit < length src → Is_sound false
  too_long h = rw (lt-leb (length src) source_limit h)

  module _ (h : length src ≤ source_limit) where
    pub outside : length src < r.place.0 → Is_sound false
    outside g = rw (le-leb (length src) source_limit h, lt-leb r.place.0 (length src) g)

    pub inside : r.place.0 ≤ length src → Is_sound (leb first.0 r.place.0)
    inside g = rw (le-leb (length src) source_limit h, le-leb r.place.0 (length src) g)

  pub sound_facts : Is_sound true → Sound src r × (first.0 ≤ r.place.0)
  sound_facts e =
      let s : sound src r ≡ true = and_first (sound src r) (leb first.0 r.place.0) (sym e) in
      let l : leb (length src) source_limit ≡ true = and_first (leb (length src) source_limit) (leb r.place.0 (length src)) s in
      let i : leb r.place.0 (length src) ≡ true = and_second (leb (length src) source_limit) (leb r.place.0 (length src)) s in
      let p : leb first.0 r.place.0 ≡ true = and_second (sound src r) (leb first.0 r.place.0) (sym e) in
      (record { limit = leb-true (length src) source_limit l; inside = leb-true r.place.0 (length src) i }, leb-true first.0 r.place.0 p)

  pub is_sound : sound src r ≡ true → first.0 ≤ r.place.0 → Is_sound true
  is_sound s p = rw (s, le-leb first.0 r.place.0 p)

  pub no_reader : sound src r ≡ false → Is_sound false
  no_reader s = rw s

  pub above : sound src r ≡ true → r.place.0 < first.0 → Is_sound false
  above s p = rw (s, lt-leb first.0 r.place.0 p)

-- The cases of the answer.
module _ (src : List ℕ) (r : Reader) (room : List ℕ) (first : TokenIndex) (need spare : ℕ) where
  pub fetched_unsound : Is_sound src r first false → reply (refused 24) room ≡ fetched src r room first need spare
  unfolding fetched
  fetched_unsound h = rw (← h)

  module _ (h : Is_sound src r first true) where
    pub fetched_none : false ≡ leb (length (ahead need src r).tokens) spare → reply (refused 2) room ≡ fetched src r room first need spare
    unfolding fetched
    fetched_none q = rw (← h, ← q)

    pub fetched_all : true ≡ leb (length (ahead need src r).tokens) spare
        → {s : Stored} → s ≡ stored first (ahead need src r) → {after : List ℕ} → after ≡ write_all room first.0 (ahead need src r).tokens
        → reply (upto s.reader s.next) after ≡ fetched src r room first need spare
    unfolding fetched
    fetched_all q e f = rw (← h, ← q, e, f)

fetched_same : (g : Result Stored Refusal) → fetched_read (fetched_told g) ≡ g
fetched_same (Ok s) = refl
fetched_same (Err n) = ap (λ q. Err q) (read_back n)

pub fetched_once : Once (λ (p : Result Stored Refusal × List ℕ). outcome p.0 p.1)
fetched_once = once _ (λ r. (fetched_read r.answer, r.after)) (λ p. ap (λ (g : Result Stored Refusal). (g, p.1)) (fetched_same p.0))
