-- Laws of the history rules.
use Prim.Native.Nat.{ℕ, ◌+◌, ◌≤◌, ◌<◌}
use mathlib.Core.Path.{◌≡◌, refl, ap}
use mathlib.Core.Logic.{◌≢◌}
use mathlib.Core.Bool.{Bool, true, false}
use mathlib.Core.List.{[], ◌∷◌, ◌++◌}
use native.Mathlib.Omega.{arith}
use lib.Dec.{eqb, leb, ltb}
use lib.ListN.{length}
use borrow.Author.Tests.{leb-true, ltb-true, le-leb, lt-ltb}
use Rattle.base.specs.Choice.{pick}
use Rattle.base.specs.Transaction.{Hist, LAST, ident, epoch_of, counter_of, id_at, last_id, next_counter, follows, rising, good_hist}
use Rattle.base.specs.declared.Txn.{Txn}
use Rattle.base.proofs.Choice.{tests, both_true, both_yes}
use Rattle.base.proofs.History.{length-snoc}

-- what `follows` says
pub record Follows (a last id : ℕ) : Type 0 where
  pub above : last < id
  pub some : 1 ≤ epoch_of id
  pub within : epoch_of id ≤ a
  pub counted : 1 ≤ counter_of id

pub follows-says : (a last id : ℕ) → follows a last id ≡ true → Follows a last id
unfolding follows
follows-says a last id e =
    let x = both_true (ltb last id) _ e in
    let y = both_true (leb 1 (epoch_of id)) _ x.1 in
    let w = both_true (leb (epoch_of id) a) (leb 1 (counter_of id)) y.1 in
    record { above = ltb-true _ _ x.0; some = leb-true _ _ y.0; within = leb-true _ _ w.0; counted = leb-true _ _ w.1 }

pub follows-shown : (a last id : ℕ) → Follows a last id → follows a last id ≡ true
unfolding follows
follows-shown a last id f =
    both_yes _ _ (lt-ltb _ _ f.above) (both_yes _ _ (le-leb _ _ f.some) (both_yes _ _ (le-leb _ _ f.within) (le-leb _ _ f.counted)))

-- ---- the end of a history

-- the last identifier, `last` if empty
unfoldable pub ends : ℕ → Hist → ℕ
ends last [] = last
ends last (t ∷ h) = ends t.id.0 h

ends_at : (last : ℕ) (t : Txn) (h : Hist) → ends last (t ∷ h) ≡ id_at (t ∷ h) (length (t ∷ h))
unfolding ends id_at
ends_at last t [] = refl
ends_at last t (u ∷ h) = ends_at t.id.0 u h

pub ends_is : (h : Hist) → ends 0 h ≡ last_id h
unfolding ends id_at
ends_is [] = refl
ends_is (t ∷ h) = ends_at 0 t h

-- ---- rising

pub rising-up : (a b last : ℕ) (h : Hist) → a ≤ b → rising a last h ≡ true → rising b last h ≡ true
unfolding rising
rising-up a b last [] k e = refl
rising-up a b last (t ∷ h) k e =
    let x = both_true (follows a last t.id.0) (rising a t.id.0 h) e in
    let f = follows-says a last t.id.0 x.0 in
    both_yes (follows b last t.id.0) (rising b t.id.0 h)
    (follows-shown b last t.id.0 (record { above = f.above; some = f.some; within = omega (arith, f.within); counted = f.counted }))
    (rising-up a b t.id.0 h k x.1)

rising-more : (a last : ℕ) (h : Hist) (t : Txn) → rising a last h ≡ true → follows a (ends last h) t.id.0 ≡ true → rising a last (h ++ (t ∷ [])) ≡ true
unfolding rising ends
rising-more a last [] t e f = both_yes (follows a last t.id.0) true f refl
rising-more a last (u ∷ h) t e f =
    let x = both_true (follows a last u.id.0) (rising a u.id.0 h) e in
    both_yes (follows a last u.id.0) (rising a u.id.0 (h ++ (t ∷ []))) x.0 (rising-more a u.id.0 h t x.1 f)

rising-end : (a last : ℕ) (h : Hist) → epoch_of last ≤ a → rising a last h ≡ true → epoch_of (ends last h) ≤ a
unfolding rising ends
rising-end a last [] k e = k
rising-end a last (t ∷ h) k e =
    let x = both_true (follows a last t.id.0) (rising a t.id.0 h) e in
    rising-end a t.id.0 h (follows-says a last t.id.0 x.0).within x.1

-- ---- good histories

pub good-len : (H a : ℕ) (h : Hist) → good_hist H a h ≡ true → length h ≤ H
unfolding good_hist
good-len H a h e = leb-true _ _ (both_true (leb (length h) H) (rising a 0 h) e).0

-- a later epoch will do as well
pub good-up : (H a b : ℕ) (h : Hist) → a ≤ b → good_hist H a h ≡ true → good_hist H b h ≡ true
unfolding good_hist
good-up H a b h k e = let x = both_true (leb (length h) H) (rising a 0 h) e in both_yes (leb (length h) H) (rising b 0 h) x.0 (rising-up a b 0 h k x.1)

pub good-nil : (H a : ℕ) → good_hist H a [] ≡ true
unfolding good_hist rising
good-nil H a = both_yes (leb 0 H) true (le-leb 0 H (omega arith)) refl

-- no identifier passes the epoch
pub good-last : (H a : ℕ) (h : Hist) → good_hist H a h ≡ true → epoch_of (last_id h) ≤ a
unfolding good_hist
good-last H a h e = omega (arith, ap epoch_of (ends_is h), rising-end a 0 h (omega arith) (both_true (leb (length h) H) (rising a 0 h) e).1)

-- one more transaction
pub good-snoc : (H a : ℕ) (h : Hist) (t : Txn) → good_hist H a h ≡ true → length h < H → Follows a (last_id h) t.id.0 → good_hist H a (h ++ (t ∷ [])) ≡ true
unfolding good_hist
good-snoc H a h t e k f =
    let x = both_true (leb (length h) H) (rising a 0 h) e in
    both_yes (leb (length (h ++ (t ∷ []))) H) (rising a 0 (h ++ (t ∷ []))) (le-leb (length (h ++ (t ∷ []))) H (omega (arith, length-snoc h t)))
    (rising-more a 0 h t x.1 (rw (ends_is h) (follows-shown a (last_id h) t.id.0 f)))

-- the next identifier of e follows the last, if its counter has 32 bits
pub next-follows : (e last : ℕ) → 1 ≤ e → epoch_of last ≤ e → next_counter e last ≤ LAST → Follows e last (ident e (next_counter e last))
unfolding next_counter pick
next-follows e last pos k s = go (eqb (epoch_of last) e) refl s
  where
    go : (b : Bool) → eqb (epoch_of last) e ≡ b → pick b (counter_of last + 1) 1 ≤ LAST → Follows e last (ident e (pick b (counter_of last + 1) 1))
    go true q c = record { above = omega tests; some = omega arith; within = omega arith; counted = omega arith }
    go false q c = record { above = omega tests; some = omega arith; within = omega arith; counted = omega arith }

-- the counter has 32 bits unless the last identifier was the epoch's last
pub next_small : (e last : ℕ) → last ≢ ident e LAST → next_counter e last ≤ LAST
unfolding next_counter pick
next_small e last n = go (eqb (epoch_of last) e) refl
  where
    go : (b : Bool) → eqb (epoch_of last) e ≡ b → pick b (counter_of last + 1) 1 ≤ LAST
    go true q = omega tests
    go false q = omega arith
