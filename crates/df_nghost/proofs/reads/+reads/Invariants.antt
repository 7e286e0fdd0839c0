use Rattle.std.proofs.Common.{◌≡◌, drop}
use Rattle.df_lang.specs.Assignment.{reads_of_addends, reads_of_factors, reads_of_members, reads_of_links}
use Rattle.df_nghost.specs.mirror.Parts.{addends_in, factors_in, members_in, links_in}
use Rattle.df_nghost.specs.mirror.Known.{assigned_of}
use Rattle.df_nghost.specs.mirror.Uses.{pick}
use Rattle.df_nghost.proofs.reads.+reads.Given as goal

-- the first so far and of what is left is the first of all
abbrev pub invariant-first_of_addends-loop-addend : goal.invariant-first_of_addends-loop-addend
invariant-first_of_addends-loop-addend l =
    pick (assigned_of l.assigned) l.first (reads_of_addends (addends_in (drop l.addend-index l.addend-items))) ≡ pick (assigned_of l.assigned) l.fn.first (reads_of_addends (addends_in l.addend-items))

abbrev pub invariant-first_of_factors-loop-factor : goal.invariant-first_of_factors-loop-factor
invariant-first_of_factors-loop-factor l =
    pick (assigned_of l.assigned) l.first (reads_of_factors (factors_in (drop l.factor-index l.factor-items))) ≡ pick (assigned_of l.assigned) l.fn.first (reads_of_factors (factors_in l.factor-items))

abbrev pub invariant-first_of_members-loop-member : goal.invariant-first_of_members-loop-member
invariant-first_of_members-loop-member l =
    pick (assigned_of l.assigned) l.first (reads_of_members (members_in (drop l.member-index l.member-items))) ≡ pick (assigned_of l.assigned) l.fn.first (reads_of_members (members_in l.member-items))

abbrev pub invariant-first_of_links-loop-link : goal.invariant-first_of_links-loop-link
invariant-first_of_links-loop-link l =
    pick (assigned_of l.assigned) l.first (reads_of_links (links_in (drop l.link-index l.link-items))) ≡ pick (assigned_of l.assigned) l.fn.first (reads_of_links (links_in l.link-items))
