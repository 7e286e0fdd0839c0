use Rattle.std.proofs.Common.{◌≡◌, drop, map}
use Rattle.df_lang.specs.ExprView.{addends_of, factors_of, members_of, links_of}
use Rattle.df_nerase.specs.Views.{addend_of, factor_of, member_of, link_of}
use Rattle.df_nerase.specs.mirror.Finding.{found_of, find_in_addends, find_in_factors, find_in_members, find_in_turned, find_in_links}
use Rattle.df_nerase.proofs.native.+expr.Given as goal

abbrev pub invariant-addends-loop-addend : goal.invariant-addends-loop-addend
invariant-addends-loop-addend l = find_in_addends (found_of l.found) l.ty (addends_of (map addend_of (drop l.addend-index l.rest.items))) ≡ find_in_addends (found_of l.fn.found) l.ty (addends_of (map addend_of l.rest.items))

abbrev pub invariant-factors-loop-factor : goal.invariant-factors-loop-factor
invariant-factors-loop-factor l = find_in_factors (found_of l.found) l.ty (factors_of (map factor_of (drop l.factor-index l.rest.items))) ≡ find_in_factors (found_of l.fn.found) l.ty (factors_of (map factor_of l.rest.items))

abbrev pub invariant-members-loop-member : goal.invariant-members-loop-member
invariant-members-loop-member l = find_in_members (found_of l.found) (members_of (map member_of (drop l.member-index l.rest.items))) ≡ find_in_members (found_of l.fn.found) (members_of (map member_of l.rest.items))

abbrev pub invariant-links-loop-link : goal.invariant-links-loop-link
invariant-links-loop-link l = find_in_links (found_of l.found) (links_of (map link_of (drop l.link-index l.rest.items))) ≡ find_in_links (found_of l.fn.found) (links_of (map link_of l.rest.items))

abbrev pub invariant-turned-loop-place : goal.invariant-turned-loop-place
invariant-turned-loop-place l = found_of l.found ≡ find_in_turned (found_of l.fn.found) (members_of (map member_of (drop l.place l.rest.items)))
