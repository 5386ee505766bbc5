-- The laws on each file of `specs`, in a folder of that name (`OnKinds` on `Kinds`); what laws and proofs share; and worked cases.
pub mod Shared
pub mod OnWords
pub mod OnRefusals
pub mod OnCalendar
pub mod OnKinds
pub mod OnNumbers
pub mod OnDays
pub mod OnText
pub mod OnSpelling
pub mod OnBook
pub mod OnListing
pub mod Worked
