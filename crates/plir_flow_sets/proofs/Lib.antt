mod SitesWalked
