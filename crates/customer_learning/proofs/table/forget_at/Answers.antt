use Rattle.std.proofs.Common.{◌≡◌, length, sym, ap, ◌∙◌, arith}
use Rattle.lru.specs.LruCache.{LruCache, lru_cache}
use Rattle.spb_types.specs.declared.address.Mac.{Mac}
use Rattle.customer_learning.specs.declared.place.Place.{Place}
use Rattle.customer_learning.specs.Known.{without_local}
use Rattle.customer_learning.proofs.Addresses.{Goes, goes, none_at}
use Rattle.customer_learning.proofs.table.forget_at.Goals as goal

pub loop-mac-smaller : goal.loop-mac-smaller
loop-mac-smaller c =
    let gone : Goes c.args.port c.in-Some.mac c.loop-mac.addresses.entries = goes c.args.port c.in-Some.mac c.loop-mac.addresses.entries c.len.ensures.valid.0 (sym c.in-Some.ensures) in
    omega (arith, gone.fewer, ap (λ (l : LruCache Mac Place). length l.entries) c.pop.ensures.entries)

pub loop-mac-preserved : goal.loop-mac-preserved
loop-mac-preserved c =
    let gone : Goes c.args.port c.in-Some.mac c.loop-mac.addresses.entries = goes c.args.port c.in-Some.mac c.loop-mac.addresses.entries c.len.ensures.valid.0 (sym c.in-Some.ensures) in
    record {
      others = ap (λ (l : LruCache Mac Place). without_local c.args.port l.entries) c.pop.ensures.entries ∙ gone.others ∙ c.loop-mac.invariant.others;
      cap = ap (λ (l : LruCache Mac Place). l.cap) c.pop.ensures.entries ∙ c.loop-mac.invariant.cap;
    }

pub returns : goal.returns
returns c =
    let stays : without_local c.args.port c.loop-mac.addresses.entries ≡ c.loop-mac.addresses.entries = none_at c.args.port c.loop-mac.addresses.entries (sym c.first_at.ensures ∙ c.in_default.is) in
    λ i. lru_cache ((sym stays ∙ c.loop-mac.invariant.others) i) (c.loop-mac.invariant.cap i)
