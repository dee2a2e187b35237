-- The members that a bridge is by what it says are those that it is by its attached ports.
use Rattle.std.proofs.Common.{◌≡◌, Bool, true, false, cond, List, [], ◌∷◌, map, Some, None, refl, sym, ap, ◌∙◌, subst}
use Rattle.std.specs.Prelude.{◌&&◌, ◌||◌}
use Rattle.std.specs.List.{AllByRecursion, filter_map, cons_option, list_any}
use Rattle.std.proofs.lemmas.Bool.{and_from, or_left, or_right, eq-eqb}
use Rattle.std.proofs.lemmas.Slice.Eq.{bytes_eq-Decides}
use Rattle.spb_types.specs.declared.address.SystemId.{SystemId}
use Rattle.spb_types.specs.declared.graph.Member.{Member}
use Rattle.spb_content.specs.declared.local.Local.{Local}
use Rattle.spb_content.specs.Local.{own_mac, said_by, IsAttached}
use Rattle.spb_content.specs.Members.{pair_of, is_of_pair, member_for, merged}
use Rattle.spb_content.specs.Folding.{service_number}
use Rattle.spb_content.specs.Graph.{member_of, members_of}
use Rattle.spb_content.proofs.Members.{Has, all_has, has_all}
use Rattle.spb_content.proofs.Covered.{has_any}
use Rattle.spb_content.proofs.Merged.{merged_for, merged_ascends, merged_systems, merged_paired, merged_again}
use Rattle.spb_content.proofs.Pairs.{attached_covered, covered_attached, paired_attached}
use Rattle.spb_content.proofs.AnyOrder.{listing, listing_same}
use Rattle.spb_content.proofs.Listed.{listed, listed_again}

-- a member that transmits or receives
abbrev pub Acts : Member → Type 0
Acts m = (m.transmit || m.receive) ≡ true

-- such a member is read of what is said of it
read_again : (x : SystemId) (m : Member) → m.system ≡ x → Acts m → member_of x (listed x.mac m) ≡ Some m
read_again x m own acts =
    let mac = (bytes_eq-Decides x.mac.bytes x.mac.bytes).1 refl in
    ap (λ b. cond b (Some (as_read x)) None) (and_from _ (m.transmit || m.receive) mac acts) ∙ ap (λ y. Some (as_read y)) (sym own)
  where
    as_read : SystemId → Member
    as_read y = record { system = y; isid = m.isid; vid = m.vid; transmit = m.transmit; receive = m.receive }

all_read : (x : SystemId) (ms : List Member) → AllByRecursion (λ m. m.system ≡ x) ms → AllByRecursion Acts ms → filter_map (member_of x) (map (listed x.mac) ms) ≡ ms
all_read x [] own acts = refl
all_read x (m ∷ ms) own acts =
    ap (λ o. cons_option o (filter_map (member_of x) (map (listed x.mac) ms))) (read_again x m own.0 acts.0) ∙ ap (λ (ns : List Member). m ∷ ns) (all_read x ms own.1 acts.1)

-- merged members of such ones are such
merged_acts : (x : SystemId) (ms : List Member) → AllByRecursion Acts ms → AllByRecursion Acts (merged x ms)
merged_acts x ms acts =
    has_all Acts (merged x ms) (λ m h. let f = merged_for x ms m h in subst Acts (sym f.is) (by f.some f.has (all_has Acts f.some ms acts f.has)))
  where
    done : (does : Member → Bool) (m : Member) → Has m ms → does m ≡ true → list_any (λ n. is_of_pair (pair_of m) n && does n) ms ≡ true
    done does m h e = has_any (λ n. is_of_pair (pair_of m) n && does n) m ms h (and_from (is_of_pair (pair_of m) m) (does m) (eq-eqb (service_number m) (service_number m) refl) e)

    by : (m : Member) → Has m ms → Acts m → Acts (member_for x ms (pair_of m))
    by m h e = at m.transmit refl e
      where
        at : (b : Bool) → m.transmit ≡ b → (b || m.receive) ≡ true → Acts (member_for x ms (pair_of m))
        at true t k = or_left (member_for x ms (pair_of m)).transmit (member_for x ms (pair_of m)).receive (done (λ n. n.transmit) m h t)
        at false t k = or_right (member_for x ms (pair_of m)).transmit (member_for x ms (pair_of m)).receive (done (λ n. n.receive) m h k)

pub said_members : (l : Local) → AllByRecursion IsAttached l.attached → AllByRecursion Acts l.attached → members_of (l.config.id.system, said_by l) ≡ merged l.config.id.system l.attached
said_members l each acts =
    let x : SystemId = l.config.id.system in
    let ms : List Member = merged x l.attached in
    let said : listing (own_mac l) l.attached ≡ map (listed (own_mac l)) ms =
    listing_same (own_mac l) l.attached ms (covered_attached x l.attached each) (attached_covered x l.attached each)
    ∙ listed_again (own_mac l) ms (merged_ascends x l.attached) (paired_attached ms l.attached (merged_paired x l.attached) each) in
    let read : filter_map (member_of x) (said_by l).services ≡ ms =
    ap (filter_map (member_of x)) said ∙ all_read x ms (merged_systems x l.attached) (merged_acts x l.attached acts) in
    ap (merged x) read ∙ merged_again x l.attached
